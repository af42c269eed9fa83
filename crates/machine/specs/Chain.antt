-- Chains of refusals: what comes out, or why not. Each refusal is one line, and the first whose test holds decides.
use Rattle.std.specs.Prelude.{Bool, true, false}
use Rattle.machine.specs.declared.Refusal.{Refusal}

-- what comes out, or the refusal
pub data Result (A : Type 0) : Type 0 where
  fine : A → Result A
  stop : Refusal → Result A

-- the refusal where the test holds, else what the rest says
unfoldable pub unless : {A : Type 0} → Bool → Refusal → Result A → Result A
unless true why rest = stop why
unless false why rest = rest

-- what comes out of the first goes into the second
unfoldable pub bind : {A B : Type 0} → Result A → (A → Result B) → Result B
bind (fine x) next = next x
bind (stop why) next = stop why
