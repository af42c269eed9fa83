-- What is told of a proof's answer, and the room that is lent.
use Rattle.std.proofs.Common.{Err}
use Prim.Native.Nat.{ℕ}
use mathlib.Core.List.{List}
use mathlib.Core.Path.{◌≡◌, refl}
use Rattle.machine.specs.Answer.{refusal_number, number, place, steps}
use Rattle.machine.specs.Bench.{ended}
use Rattle.machine.specs.Run.{State}
use Rattle.run_bytes.specs.declared.Stopped.{Stopped}
use Rattle.findings.specs.Answers.{Accepted}
use Rattle.findings.specs.Tells.{Tells, accepts, refuses}
use Rattle.told.specs.Says.{Says, SaysAs}

accepted-says : {f entries : List ℕ} {at done word nodes : ℕ} {s : State} → Tells f entries s (Accepted at done word nodes) → Says (ended s) (record { number = 0; place = at; steps = done })
unfolding ended number place steps
accepted-says (accepts few held) = record { number = refl; place = refl; steps = refl }

refused_says : {f entries : List ℕ} {x : Stopped} {n : ℕ} {s : State} → n ≡ refusal_number x.why → Tells f entries s (Err x)
    → Says (ended s) (record { number = n; place = x.place; steps = x.steps })
unfolding ended number place steps
refused_says e refuses = record { number = e; place = refl; steps = refl }

pub accepted-told : {at done word nodes : ℕ} → SaysAs (Accepted at done word nodes) (record { number = 0; place = at; steps = done })
accepted-told = record { says = λ f entries s t. accepted-says t }

pub refused-told : {x : Stopped} {n : ℕ} → n ≡ refusal_number x.why → SaysAs (Err x) (record { number = n; place = x.place; steps = x.steps })
refused-told e = record { says = λ f entries s t. refused_says e t }
