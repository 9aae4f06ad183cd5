-- What a start on a sound session gives the functions that it calls: the choice's task is there, the effect finds room where
-- no 23 or 24 is given, and a screen stands at the mark afterwards.
use Prim.Native.Nat.{ℕ, ◌+◌, ◌≤◌}
use mathlib.Core.Path.{◌≡◌, ap}
use mathlib.Core.Bool.{false, ◌&&◌}
use mathlib.Core.List.{List}
use lib.Dec.{eqb}
use Rattle.model.specs.declared.Choice.{Choice}
use Rattle.model.specs.declared.Flags.{Flags}
use Rattle.model.specs.Session.{front_screen, count, most_tasks}
use Rattle.model.specs.Search.{place_of}
use Rattle.model.specs.Rules.{choose}
use Rattle.model.specs.Calls.{effect_in, makes_task, overfills, closed_by_choice, closed_by_finish}
use Rattle.model.specs.Marks.{closed_at}
use Rattle.model.proofs.Marks.{close_at}
use Rattle.model.proofs.RefusalLaws.{refusal-skip}
use Rattle.model.proofs.Sound.{Sound}
use Rattle.model.proofs.Effects.{Ready as EffectReady, carry-sound}
use Rattle.model.proofs.Start.{started_by, choose-ready}
use Rattle.model.proofs.Finish.{finished_by, mark_of, finished-by, finished-closes, marked-stands}
use Rattle.session.specs.declared.Session.{Session}
use Rattle.session.specs.Stored.{view, hold}
use Rattle.session.proofs.Known.{Sized}
use Rattle.session.proofs.StoredLaws.{view-hold, view-count, blank-few, sound-blank, sound-view, sound-fits, hold-blank, hold-sized}
use Rattle.rules.specs.Startable.{Startable}
use Rattle.effects.proofs.Carriable.{Carriable}
use Rattle.effects.proofs.Carried.{carriable}
use Rattle.closing.proofs.Closable.{Markable}
use Rattle.starts.specs.Checks.{room_refusal}

-- ---- a start

module _ (tb : List ℕ) (c : Session) (b : ℕ) (f : Flags) (z : Sized c) (h : Startable tb c b) where
  abbrev chosen : Choice
  chosen = choose tb (view c) b f

  sound-v : Sound tb (view c)
  sound-v = sound-view tb c h.ready.sound

  counted : count (view c) ≡ c.n
  counted = view-count c z (blank-few c (sound-blank tb c h.ready.sound))

  some : 1 ≤ count (view c)
  some = rw counted h.some

  effect-ready : EffectReady tb b (view c) (effect_in (view c) chosen) (place_of chosen.found)
  effect-ready = choose-ready tb (view c) b f sound-v some

  module _ (room : room_refusal tb c b f ≡ 0) where
    no-23 : (makes_task (effect_in (view c) chosen) && eqb (count (view c)) most_tasks) ≡ false
    no-23 = (refusal-skip 22 _ _ room).0

    no-24 : overfills (effect_in (view c) chosen) (place_of chosen.found) (view c) ≡ false
    no-24 = (refusal-skip 23 _ _ (refusal-skip 22 _ _ room).1).0

    -- the effect may be carried out
    pub start-carriable : Carriable c (effect_in (view c) chosen) (place_of chosen.found)
    start-carriable = carriable tb b c (effect_in (view c) chosen) (place_of chosen.found) h.ready.sound effect-ready no-23 no-24

    started-sound : Sound tb (started_by chosen b (view c))
    started-sound = carry-sound tb b h.known (effect_in (view c) chosen) (place_of chosen.found) (view c) effect-ready no-23 no-24 sound-v

    pub start-sized : Sized (hold (started_by chosen b (view c)))
    start-sized = hold-sized (started_by chosen b (view c)) (sound-fits tb (started_by chosen b (view c)) started-sound)

    -- the marked screen may be closed
    pub start-markable : Markable (hold (started_by chosen b (view c))) (effect_in (view c) chosen) (place_of chosen.found) (eqb b (front_screen (view c)))
    start-markable =
        record {
          blank = hold-blank (started_by chosen b (view c)) (sound-fits tb (started_by chosen b (view c)) started-sound);
          marked = rw (view-hold (started_by chosen b (view c))) (marked-stands tb b f (view c) sound-v some);
        }

    -- a finishing start closes it
    pub finish-closes : hold (finished_by chosen b (view c))
        ≡ hold (close_at (mark_of chosen b (view c)) (view (hold (started_by chosen b (view c)))))
    finish-closes = rw (view-hold (started_by chosen b (view c)), finished-by tb b f (view c) sound-v some)

    -- and the screens that it closes are those of the start, and that one if it stands
    pub finish-closed : closed_by_finish chosen b (view c) ≡ closed_by_choice chosen b (view c) + closed_at (mark_of chosen b (view c))
    finish-closed = ap (λ (n : ℕ). closed_by_choice chosen b (view c) + n) (finished-closes tb b f (view c) sound-v some)
