-- Document 01, "Calls", and document 02, requests 2, 4 and 7: what an answer is.
use Rattle.std.specs.Prelude.{ℕ, zero, suc, List, [], ◌∷◌}
use Rattle.model.specs.declared.Answer.{Answer}
use Rattle.model.specs.Session.{State, front, front_screen, height, count}

-- "An answer is six numbers: refusal (0 if none), front screen, front root, front height, n, m, after the call. An
-- empty session gives six zeros." "The answer gains a seventh number: screens removed by this call": by a look, none. "the answer
-- gains it as its eighth number": the edition. "The mark is the answer's ninth number".
unfoldable pub look_at : State ℕ → Answer
look_at s =
    record {
      refusal = 0;
      screen = front_screen s;
      root = (front s).root;
      height = height (front s);
      tasks = count s;
      main = s.main;
      closed = 0;
      edition = s.edition;
      no_history = s.no_history;
    }

-- the answer of a call that closed k screens
abbrev pub with_closed : ℕ → Answer → Answer
with_closed k a =
    record {
      refusal = a.refusal;
      screen = a.screen;
      root = a.root;
      height = a.height;
      tasks = a.tasks;
      main = a.main;
      closed = k;
      edition = a.edition;
      no_history = a.no_history;
    }

-- "A refused call gives its number and zeros in every other place of the answer"; "0 when refused"
abbrev pub refused : ℕ → Answer
refused k =
    record { refusal = k; screen = 0; root = 0; height = 0; tasks = 0; main = 0; closed = 0; edition = 0; no_history = 0 }

-- the nine numbers in the documents' order
abbrev pub numbers_of : Answer → List ℕ
numbers_of a =
    a.refusal ∷ a.screen ∷ a.root ∷ a.height ∷ a.tasks ∷ a.main ∷ a.closed ∷ a.edition ∷ a.no_history ∷ []

-- what a call gives: the session and the answer
pub record Outcome : Type 0 where
  pub session : State ℕ
  pub answer : Answer

abbrev pub outcome : State ℕ → Answer → Outcome
outcome s a = record { session = s; answer = a }

-- what a call gives, by its refusal k: the session s' that it makes and the answer a, or the session s before it, "Session and
-- buffers are unchanged". Sessions may be of any kind; `give` joins one with an answer.
abbrev pub settle : {S R : Type 0} → (S → Answer → R) → ℕ → S → S → Answer → R
settle give zero s s' a = give s' a
settle give (suc k) s s' a = give s (refused (suc k))
