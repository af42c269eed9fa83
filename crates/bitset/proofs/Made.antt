-- What the calls of std in `union` and `from_table` give: an array made by `array::from_fn`, and the rest of a table.
use mathlib.Core.Path.{◌≡◌, sym, ap, subst, ◌∙◌}
use mathlib.Core.Logic.{◌⊎◌, inl, inr}
use mathlib.Core.List.{List, []}
use Prim.Native.Nat.{ℕ, zero, suc, ◌+◌, ◌-◌, ◌≤◌, ◌<◌}
use native.Mathlib.Omega.{arith}
use native.Mathlib.Decide.{ℕ_discrete}
use lib.ListN.{length, get_or, drop, length-drop, drop_of_length-le}
use lib.Seq.{ext_get_or, take_all}
use denote.Ref.{Bor}
use denote.Param.Members.{Mut}
use Rattle.std.specs.Fn.{Called}
use Rattle.std.specs.Prelude.{Option, None, Some}
use Rattle.std.specs.Option.{unwrap_or}
use Rattle.std.specs.List.{PartBy}
use Rattle.std.specs.Array.{IsFromFnResultFrom, IsFromFnResult}

-- where the closure keeps what it captured and computes h of the index, each element of the array is h of its place
module _ {F : Type 0} (g : Mut F (ℕ × Unit {0}) ℕ) (h : ℕ → ℕ) (f : F) (ys : List ℕ) (pure : (x r : ℕ) (q : F) → Called g f (x, tt) r q → (q ≡ f) × (r ≡ h x)) where
  made_from : (i n : ℕ) → IsFromFnResultFrom g f ys i n → (k : ℕ) → i ≤ k → k < i + n → get_or ys k 0 ≡ h k
  made_from i zero m k l u = absurd (omega arith)
  made_from i (suc n) m k l u =
      let told = pure i m.1 m.0 m.3 in
      go (ℕ_discrete k i) (λ r. made_from (i + 1) n (subst (λ (q : F). IsFromFnResultFrom g q ys (i + 1) n) told.0 m.4) k r (omega arith))
    where
      go : Dec (k ≡ i) → (i + 1 ≤ k → get_or ys k 0 ≡ h k) → get_or ys k 0 ≡ h k
      go (yes e) later = ap (λ (x : ℕ). get_or ys x 0) e ∙ (m.2.1 0 ∙ ((pure i m.1 m.0 m.3).1 ∙ ap h (sym e)))
      go (no d) later = later (omega arith)

  -- so it is each list of that length with these elements
  pub made : (n : ℕ) (xs : List ℕ) → IsFromFnResult g f ys n → length xs ≡ n → ((k : ℕ) → k < n → get_or xs k 0 ≡ h k) → ys ≡ xs
  made n xs m e at =
      ext_get_or 0 ys xs (m.long ∙ sym e) (λ k l. let long = m.long in made_from 0 n m.each k (omega arith) (omega arith) ∙ sym (at k (omega arith)))

-- what a table has from a place on, where nothing stands for what is past its end
pub rest_of_table : (table : List ℕ) (at : ℕ) (r : Option (Bor (List ℕ))) (none words : Bor (List ℕ)) → PartBy (λ (x : Bor (List ℕ)). x.now) table at (length table) r
    → none.now ≡ [] → words ≡ unwrap_or r none → words.now ≡ drop at table
rest_of_table table at None none words p e is = ap (λ (b : Bor (List ℕ)). b.now) is ∙ e ∙ sym (drop_of_length-le table (past p.0))
  where
    past : (length table < at) ⊎ (length table < length table) → length table ≤ at
    past (inl h) = omega arith
    past (inr h) = absurd (omega arith)
rest_of_table table at (Some part) none words p e is =
    ap (λ (b : Bor (List ℕ)). b.now) is ∙ p.0.2 ∙ take_all (length table - at) (drop at table) (omega (arith, length-drop at table))
