-- Two answers that go on, or that stop, and are the same have the same parts.
use Rattle.std.proofs.Common.{ℕ, ◌≡◌, ap, sym, Ok, Err}
use Rattle.machine.specs.declared.Refusal.{Refusal}
use Rattle.memory.specs.declared.Counts.{Counts}
use Rattle.run.specs.declared.Mode.{Mode}
use Rattle.run.specs.Read.{Read, Go, Stop}

mode-in : Mode → Read → Mode
mode-in m (Ok going) = going.mode
mode-in m (Err halted) = m

counts-in : Counts → Read → Counts
counts-in c (Ok going) = going.counts
counts-in c (Err halted) = c

steps-in : Read → ℕ
steps-in (Ok going) = going.steps
steps-in (Err halted) = halted.steps

why-in : Refusal → Read → Refusal
why-in w (Ok going) = w
why-in w (Err halted) = halted.why

pub go-parts : {m m' : Mode} {c c' : Counts} {s s' : ℕ} → Go m c s ≡ Go m' c' s' → (m ≡ m') × (c ≡ c') × (s ≡ s')
unfolding mode-in counts-in steps-in
go-parts {m} {m'} {c} {c'} e = (ap (mode-in m) e, ap (counts-in c) e, ap steps-in e)

pub stop-parts : {w w' : Refusal} {s s' : ℕ} → Stop w s ≡ Stop w' s' → (w ≡ w') × (s ≡ s')
unfolding why-in steps-in
stop-parts {w} e = (ap (why-in w) e, ap steps-in e)
