-- Lines computed from the definition: `good 14 15`, `refused 2 0`, `refused 7 1048576`, each with LF.
use mathlib.Core.Path.{◌≡◌, refl}
use mathlib.Core.List.{[], ◌∷◌}
use Rattle.verdict_text.specs.Text.{digits_of, good_line, refused_line}

good-14-15 : good_line 14 15 ≡ 103 ∷ 111 ∷ 111 ∷ 100 ∷ 32 ∷ 49 ∷ 52 ∷ 32 ∷ 49 ∷ 53 ∷ 10 ∷ []
unfolding digits_of
good-14-15 = refl

refused-2-0 : refused_line 2 0 ≡ 114 ∷ 101 ∷ 102 ∷ 117 ∷ 115 ∷ 101 ∷ 100 ∷ 32 ∷ 50 ∷ 32 ∷ 48 ∷ 10 ∷ []
unfolding digits_of
refused-2-0 = refl

refused-7-at-the-end : refused_line 7 1048576 ≡ 114 ∷ 101 ∷ 102 ∷ 117 ∷ 115 ∷ 101 ∷ 100 ∷ 32 ∷ 55 ∷ 32 ∷ 49 ∷ 48 ∷ 52 ∷ 56 ∷ 53 ∷ 55 ∷ 54 ∷ 10 ∷ []
unfolding digits_of
refused-7-at-the-end = refl
