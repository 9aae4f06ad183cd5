-- The index of the start, its entry, what that says, then the task that its group seeks, then that task's index.
use Prim.Native.Nat.{ℕ, ◌<◌}
use mathlib.Core.Path.{◌≡◌, refl, sym, ◌∙◌, ap}
use mathlib.Core.Bool.{Bool, not}
use mathlib.Core.List.{List}
use native.Mathlib.Omega.{arith}
use lib.Dec.{ltb}
use borrow.Author.Tests.{not-false}
use Rattle.model.specs.Table.{size_of, main_screen, mode_of, is_single_instance, table_shaped, table_filled, table_refusal}
use Rattle.model.specs.Session.{front_screen}
use Rattle.model.proofs.Logic.{and_right}
use Rattle.model.proofs.RefusalLaws.{refusal-skip}
use Rattle.model.proofs.Tables.{modes-decides}
use Rattle.session.specs.Stored.{view, view_task, task_behind}
use Rattle.session.proofs.Known.{Sized, sized}
use Rattle.session.proofs.StoredLaws.{view-main}
use Rattle.flag_chart.specs.Chart.{chart_rule, index_of, entry_at}
use Rattle.flag_chart.proofs.IndexLaws.{indexes-chart}
use Rattle.rules.proofs.Tasks.{own_row, top-row, task-filled, front-screen, stored-shows, index-stands}
use Rattle.rules.proofs.Groups.{found-chosen, rule-chosen}
use Rattle.chart_starts.specs.Decoding.{group_in, asks_in}
use Rattle.chart_starts.proofs.Decoded.{decoded, found-by, rule-by}
use Rattle.chart_starts.proofs.ByChartSeeker.seek_task.Goals as goal

-- the mode of a screen of a good table is one of the four
mode-known : (tb : List ℕ) → table_refusal tb ≡ 0 → (x : ℕ) → x < size_of tb → mode_of tb x < 4
unfolding table_refusal table_filled
mode-known tb ok x l =
    let c₁ = refusal-skip 0 (not (table_shaped tb)) _ ok in
    let c₂ = refusal-skip 1 (not (table_filled tb)) _ c₁.1 in
    let most = (modes-decides tb (size_of tb)).holds (and_right (ltb (main_screen tb) (size_of tb)) _ (not-false _ c₂.0)) x l in
    omega arith

pub top-requires : goal.top-requires
top-requires c =
    let a = c.args in
    task-filled a.table.now a.s a.b (sized a.s _ c.well_formed.1.0) c.requires 0 c.requires.some

pub is_single_instance-apart_caller-requires : goal.is_single_instance-apart_caller-requires
is_single_instance-apart_caller-requires c =
    let a = c.args in
    rw c.top.ensures (top-row a.table.now a.s a.b (sized a.s _ c.well_formed.1.0) c.requires 0 c.requires.some)

pub mode-requires : goal.mode-requires
mode-requires c = let a = c.args in own_row a.table.now a.s a.b (sized a.s _ c.well_formed.1.0) c.requires

pub sought_by-found-requires : goal.sought_by-found-requires
sought_by-found-requires c = c.requires

pub returns : goal.returns
returns c =
    let a = c.args in
    let tb = a.table.now in
    let z : Sized a.s = sized a.s _ c.well_formed.1.0 in
    let d = decoded tb (view a.s) a.b a.f in
    let front : c.top.result ≡ front_screen (view a.s) = c.top.ensures ∙ sym (front-screen a.s c.requires.some) in
    let e : c.entry-entry.result ≡ chart_rule (mode_of tb a.b) (is_single_instance tb (front_screen (view a.s))) a.f =
    c.entry-entry.ensures.entry
    ∙ ap entry_at (c.index-index.ensures ∙ ap (λ (m : ℕ). index_of m c.is_single_instance-apart_caller.result a.f) c.mode.ensures
    ∙ ap (λ (t : Bool). index_of (mode_of tb a.b) t a.f) (c.is_single_instance-apart_caller.ensures ∙ ap (is_single_instance tb) front))
    ∙ indexes-chart.rule (mode_of tb a.b) _ a.f (mode-known tb c.requires.ready.good a.b c.requires.known) in
    let g = c.group_in-group.ensures ∙ ap group_in e in
    let k = c.asks_in-asks.ensures ∙ ap asks_in e in
    let sought = found-by d g k c.sought_by-found.ensures in
    let i = c.index_of.ensures in
    let stands = index-stands tb a.s a.b z c.requires a.f _ sought i in
    let t = task_behind a.s c.index_of.result in
    record {
      found = found-chosen tb (view a.s) a.b a.f (g ∙ d.group) sought;
      index = i;
      rule = rule-by d g k (view_task t) a.s.main c.sought_by-found.result
          ∙ rule-chosen tb (view a.s) a.b a.f (g ∙ d.group) sought t (stored-shows a.s c.sought_by-found.result i stands) (view-main a.s) refl;
      noh = refl;
    }
