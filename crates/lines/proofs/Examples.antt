-- Lines computed from the definition: document 01's `checked 2`, `th1 0 13 5`, and `refused 2 0`, each with LF.
use mathlib.Core.Path.{◌≡◌, refl}
use mathlib.Core.List.{[], ◌∷◌}
use Rattle.verdict_text.specs.Text.{digits_of, refused_line}
use Rattle.lines.specs.Lines.{checked_line, answer_line}

checked-2 : checked_line 2 ≡ 99 ∷ 104 ∷ 101 ∷ 99 ∷ 107 ∷ 101 ∷ 100 ∷ 32 ∷ 50 ∷ 10 ∷ []
unfolding digits_of
checked-2 = refl

th1-0-13-5 : answer_line (116 ∷ 104 ∷ 49 ∷ []) 0 13 5 ≡ 116 ∷ 104 ∷ 49 ∷ 32 ∷ 48 ∷ 32 ∷ 49 ∷ 51 ∷ 32 ∷ 53 ∷ 10 ∷ []
unfolding digits_of
th1-0-13-5 = refl

refused-2-0 : refused_line 2 0 ≡ 114 ∷ 101 ∷ 102 ∷ 117 ∷ 115 ∷ 101 ∷ 100 ∷ 32 ∷ 50 ∷ 32 ∷ 48 ∷ 10 ∷ []
unfolding digits_of
refused-2-0 = refl
