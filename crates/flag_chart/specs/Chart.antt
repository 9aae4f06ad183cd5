-- Document 02, request 9: the flag chart as a table.
use Rattle.std.specs.Prelude.{ℕ, zero, suc, ◌+◌, ◌*◌, ◌/◌, ◌<◌, ◌≡◌, Bool, false, not, ◌&&◌, ◌||◌, List, [], ◌∷◌, ◌++◌, eqb, ltb, if◌then◌else◌}
use Rattle.model.specs.declared.Flags.{Flags}
use Rattle.model.specs.Table.{single_top, single_task, single_instance}
use Rattle.model.specs.Flags.{bit}
use Rattle.model.specs.Player.{newline, decimal}

-- "NTK worth 32": a value that counts where the test holds
abbrev pub worth : ℕ → Bool → ℕ
worth n test = if test then n else 0

-- ---- the rule of an entry

-- B's mode; whether A is single-instance, which is "apart-caller"; and the six flags
module _ (mode : ℕ) (apart_caller : Bool) (f : Flags) where
  -- "Low three bits: 1 for R1 and R2, 2 for R3 to R6, 3 for R7 to R10, 4 for R11, 5 for R12 to R18. These are the classes": of a
  -- screen by its mode, and else by whether the start is apart (01: "NTK is set or A is single-instance"), and by "R11 MTK"
  abbrev pub class_of : ℕ
  class_of =
      if eqb mode single_instance then 1 else
      if eqb mode single_task then 2 else
      if not (f.ntk || apart_caller) then 3 else
      if f.mtk then 4 else 5

  -- "Single means B's mode is 1 or STP is set" (01)
  abbrev pub single : Bool
  single = eqb mode single_top || f.stp

  -- the sum of the class and four values
  unfoldable pub chart_rule : ℕ
  chart_rule =
      class_of
      -- "Value 8: single, in class 3, and in class 5 with neither CTP nor CTK."
      + worth 8 (single && (eqb class_of 3 || (eqb class_of 5 && not (f.ctp || f.ctk))))
      -- "Value 16: CTP, in 3, and in 5 without CTK."
      + worth 16 (f.ctp && (eqb class_of 3 || (eqb class_of 5 && not f.ctk)))
      -- "Value 32: CTK, in 2 and 5."
      + worth 32 (f.ctk && (eqb class_of 2 || eqb class_of 5))
      -- "Value 64: RTF without CTP, in 3."
      + worth 64 (f.rtf && (not f.ctp && eqb class_of 3))

  -- ---- the index

  -- "mode × 128 + apart-caller × 64 + the six old flags, NTK worth 32, STP 16, MTK 8, CTP 4, RTF 2, CTK 1"
  unfoldable pub index_of : ℕ
  index_of =
      mode * 128 + worth 64 apart_caller
      + worth 32 f.ntk + worth 16 f.stp + worth 8 f.mtk + worth 4 f.ctp + worth 2 f.rtf + worth 1 f.ctk

-- the digits of an index: the mode, the caller, the six flags. The seventh is not in it.
abbrev pub mode_in : ℕ → ℕ
mode_in i = i / 128

abbrev pub apart_caller_in : ℕ → Bool
apart_caller_in i = eqb (bit 64 i) 1

unfoldable pub flags_in : ℕ → Flags
flags_in i =
    record {
      ntk = eqb (bit 32 i) 1;
      stp = eqb (bit 16 i) 1;
      mtk = eqb (bit 8 i) 1;
      ctp = eqb (bit 4 i) 1;
      rtf = eqb (bit 2 i) 1;
      ctk = eqb (bit 1 i) 1;
      noh = false;
    }

-- ---- the entries

-- "a constant of 512 bytes"
abbrev pub entries : ℕ
entries = 512

-- the entry at an index, by the rule of its digits; 0 where there is none
unfoldable pub entry_at : ℕ → ℕ
entry_at i = if ltb i entries then chart_rule (mode_in i) (apart_caller_in i) (flags_in i) else 0

-- the index of a mode, a caller and flags leads to the entry of their rule; and each entry is of such
pub record IndexesChart : Type 0 where
  pub rule : (mode : ℕ) (apart_caller : Bool) (f : Flags) → mode < 4 → entry_at (index_of mode apart_caller f) ≡ chart_rule mode apart_caller f
  pub each : (i : ℕ) → index_of (mode_in i) (apart_caller_in i) (flags_in i) ≡ i

-- ---- the text

-- "A generator prints the constant's entries in index order, base ten, one a line": the first n of them
unfoldable pub lines_of : ℕ → List ℕ
lines_of zero = []
lines_of (suc n) = lines_of n ++ decimal (entry_at n) ++ newline ∷ []

unfoldable pub chart_text : List ℕ
chart_text = lines_of entries

-- no text is longer: each entry has at most three digits, and a newline behind it
abbrev pub longest_chart : ℕ
longest_chart = 4 * entries
