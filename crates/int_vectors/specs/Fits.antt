-- Which vectors and sums fit.
use Rattle.std.specs.Prelude.{List, [], ◌∷◌, ℤ, ◌+ℤ◌, ◌*ℤ◌}
use Rattle.wide_int.specs.Whole.{FitsWhole}

-- each entry fits
abbrev pub AllFit : List ℤ → Type 0
AllFit [] = Unit {0}
AllFit (x ∷ xs) = FitsWhole x × AllFit xs

-- each product, and each partial sum behind the start, fits; the start itself where there is nothing to add
unfoldable pub FitsDot : ℤ → List ℤ → List ℤ → Type 0
FitsDot start [] ys = FitsWhole start
FitsDot start (x ∷ xs) [] = FitsWhole start
FitsDot start (x ∷ xs) (y ∷ ys) = FitsWhole (x *ℤ y) × FitsWhole (start +ℤ x *ℤ y) × FitsDot (start +ℤ x *ℤ y) xs ys

-- the same, and the start fits in every case
abbrev pub FitsSum : ℤ → List ℤ → List ℤ → Type 0
FitsSum start xs ys = FitsWhole start × FitsDot start xs ys
