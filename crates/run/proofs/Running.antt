-- From one part of a run to the next: what a callee asks for, and that the run may go on.
use Rattle.std.proofs.Common.{Ok}
use Prim.Native.Nat.{◌*◌, ◌≤◌, ◌<◌}
use mathlib.Core.Path.{◌≡◌}
use native.Mathlib.Omega.{arith}
use lib.ListN.{length}
use Rattle.machine.specs.Chain.{Result}
use Rattle.machine.specs.Memory.{Memory}
use Rattle.memory.specs.declared.Counts.{Counts}
use Rattle.memory.specs.Outcome.{Outcome}
use Rattle.memory.proofs.Ending.{ends-go}
use Rattle.apply.specs.Hyps.{Ranged}
use Rattle.run.specs.Running.{Env, Tables, Running, Proceeds}

-- what stepping asks for
module _ {e : Env} {t : Tables} {c : Counts} (r : Running e t c) where
  pub room-there : ((c.used ≤ e.limits.pool) × (e.limits.pool ≤ length t.pool)) × ((10 * e.limits.stack ≤ length t.stack) × (e.limits.stack ≤ 1024))
  room-there = let s = r.shown in ((s.pool_few, s.pool_sized), (s.stack_sized, s.stack_limit))

  pub places-there : (10 * e.limits.places ≤ length t.places) × (e.limits.places ≤ 4096)
  places-there = let s = r.shown in (s.places_sized, s.places_limit)

  pub images-there : ((Ranged t.froms t.tos c.used × (length t.froms ≤ length t.tos)) × ((c.used < 4294967296) × ((c.depth ≤ 1024) × (64 ≤ length t.seats)))) × (c.places ≤ 4096)
  images-there =
      let s = r.shown in
      let z = r.sized in
      let a = s.pool_few in
      let b = r.checked.small in
      let d = s.stack_few in
      let l = s.stack_limit in
      let p = s.places_few in
      let q = s.places_limit in
      let x = z.froms in
      let y = z.tos in
      (((z.ranged, omega arith), (omega arith, (omega arith, z.seats))), omega arith)

  pub tree-there : length t.tree ≤ 131072
  tree-there = r.shown.tree_limit

  pub pool-there : (c.count < 1000) × ((c.used ≤ e.limits.pool) × (e.limits.pool ≤ length t.pool))
  pool-there = let s = r.shown in let f = s.variables_few in (omega arith, (s.pool_few, s.pool_sized))

  -- the run may go on after a part of it
  pub running-on : {t' : Tables} {op : Memory → Result Memory} {answer : Outcome} {c' : Counts} → Proceeds e t t' c op answer → answer ≡ Ok c' → Running e t' c'
  running-on {t'} {op} {answer} {c'} p is =
      let w = ends-go (rw is at (p.follows r.memory r.shown)) in
      record { checked = r.checked; sized = p.sized c' is; memory = w.0; shown = w.2 }
