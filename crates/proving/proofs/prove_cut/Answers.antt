-- `proving::prove_cut` meets its contract: the tables are cut to as many entries as the file has symbols.
use Prim.Native.Nat.{◌*◌}
use mathlib.Core.Path.{sym}
use native.Mathlib.Omega.{arith}
use lib.ListN.{length}
use lib.Seq.{length-take-le}
use Rattle.proving.proofs.Preparing.{cut, width_few}
use Rattle.proving.proofs.prove_cut.Goals as goal

pub slice_bounds-prove-end : goal.slice_bounds-prove-end
slice_bounds-prove-end c = omega (arith, width_few c.requires.filed, c.requires.ours.froms_size)

pub slice_bounds-prove-end-2 : goal.slice_bounds-prove-end-2
slice_bounds-prove-end-2 c = let a = c.args in sym (length-take-le (length a.symbols.now) a.froms.now (omega (arith, width_few c.requires.filed, c.requires.ours.froms_size)))

pub slice_bounds-prove-end-3 : goal.slice_bounds-prove-end-3
slice_bounds-prove-end-3 c = omega (arith, width_few c.requires.filed, c.requires.ours.tos_size)

pub slice_bounds-prove-end-4 : goal.slice_bounds-prove-end-4
slice_bounds-prove-end-4 c = let a = c.args in sym (length-take-le (length a.symbols.now) a.tos.now (omega (arith, width_few c.requires.filed, c.requires.ours.tos_size)))

pub slice_bounds-prove-end-5 : goal.slice_bounds-prove-end-5
slice_bounds-prove-end-5 c = omega (arith, width_few c.requires.filed, c.requires.ours.sets_size)

pub slice_bounds-prove-end-6 : goal.slice_bounds-prove-end-6
slice_bounds-prove-end-6 c = let a = c.args in sym (length-take-le (4 * length a.symbols.now) a.sets.now (omega (arith, width_few c.requires.filed, c.requires.ours.sets_size)))

pub slice_bounds-prove-end-7 : goal.slice_bounds-prove-end-7
slice_bounds-prove-end-7 c = omega (arith, width_few c.requires.filed, c.requires.ours.numbers_size)

pub slice_bounds-prove-end-8 : goal.slice_bounds-prove-end-8
slice_bounds-prove-end-8 c = let a = c.args in sym (length-take-le (length a.symbols.now) a.numbers.now (omega (arith, width_few c.requires.filed, c.requires.ours.numbers_size)))

pub prove-requires : goal.prove-requires
prove-requires c = let a = c.args in record { labelled = c.requires.labelled; filed = c.requires.filed; asked = c.requires.asked; cut = cut a.symbols.now c.requires.ours (length-take-le (length a.symbols.now) a.froms.now (omega (arith, width_few c.requires.filed, c.requires.ours.froms_size))) (length-take-le (length a.symbols.now) a.tos.now (omega (arith, width_few c.requires.filed, c.requires.ours.tos_size))) (length-take-le (4 * length a.symbols.now) a.sets.now (omega (arith, width_few c.requires.filed, c.requires.ours.sets_size))) (length-take-le (length a.symbols.now) a.numbers.now (omega (arith, width_few c.requires.filed, c.requires.ours.numbers_size))); entries = omega (arith, c.requires.entries) }
