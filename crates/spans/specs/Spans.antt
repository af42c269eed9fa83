-- Where a part of a token stands in the text.
use Rattle.std.specs.Prelude.{ℕ, ◌+◌, ◌≤◌, ◌<◌, ◌≡◌, List, length}
use Rattle.std.proofs.Math.Option.{Option}
use Rattle.memory.specs.Shown.{mark_of}
use Rattle.spans.specs.declared.Span.{Span}

-- the part before a sign at `own` in a token of `size` bytes from `from` on: none where the sign is not there, else from after the other sign where that
-- stands first
pub record Before (from size own other : ℕ) (r : Span) : Type 0 where
  pub absent : size ≤ own → (r.tag ≡ 0) × (r.end ≡ 0)
  pub second : own < size → other < own → (r.tag ≡ from + other + 2) × (r.end ≡ from + own)
  pub first : own < size → own ≤ other → (r.tag ≡ from + 1) × (r.end ≡ from + own)

-- the span stands for a part of the text, or for none; it lies within the text
pub record StandsFor (text : List ℕ) (part : Option (List ℕ)) (r : Span) : Type 0 where
  pub is : mark_of text r.tag r.end ≡ part
  pub begins : r.tag ≤ length text
  pub ends : r.end ≤ length text
