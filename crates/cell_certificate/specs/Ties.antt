-- What the inner functions find of points whose sum is 0.
use Rattle.std.specs.Prelude.{◌≡◌, ℕ, zero, suc, List, [], ◌∷◌, ℤ, pos, negsuc}
use Rattle.cayley.specs.Times.{time_zero}
use Rattle.cayley.specs.Problems.{Problem}
use Rattle.cayley.specs.Cells.{Cell, IsIndependent}
use Rattle.cayley.specs.Dependencies.{pair_at, IsFurtherAt, nth_support}
use Rattle.cayley.specs.Normals.{Normal, IsNormal, IsAbove}
use Rattle.inner_normal.specs.Coefficients.{difference, FitsCoefficients}
use Rattle.inner_normal.specs.Inverses.{Inverse}
use Rattle.listing_text.specs.declared.listing.ListedCell.{ListedCell}
use Rattle.cell_certificate.specs.Judgements.{HasSums, HasLevel}
use Rattle.cell_certificate.specs.Tests.{sum_of}
use Rattle.cell_certificate.specs.Written.{IsListed}

-- the first entry that isn't 0, or 0
abbrev pub leading : List ℤ → ℤ
leading [] = pos 0
leading (pos zero ∷ xs) = leading xs
leading (pos (suc n) ∷ xs) = pos (suc n)
leading (negsuc n ∷ xs) = negsuc n

-- a line whose cell is independent, whose sums fit, and whose normal makes both points of each pair equal
abbrev pub IsLevelLine : Problem → ListedCell → Type 0
IsLevelLine p x = IsListed p x × IsIndependent p x.cell × HasSums p x × HasLevel p x

-- where point c of support j is a further one of sum 0 the numbers of its circuit fit
abbrev pub FitsTieAt : Problem → Cell → List ℤ → ℤ → Inverse → ℕ → ℕ → Type 0
FitsTieAt p cell v den inverse j c = IsFurtherAt p cell j c → sum_of p cell v den j c ≡ pos 0 → FitsCoefficients j inverse (difference p cell j c)

-- where it is a further point it is above under every normal
abbrev pub IsOverAt : Problem → Cell → ℕ → ℕ → Type 0
IsOverAt p cell j c = IsFurtherAt p cell j c → (w : Normal) → IsNormal p cell time_zero w → IsAbove time_zero w (nth_support p.supports j) (pair_at cell j).0 c

-- of all points
abbrev pub FitTies : Problem → Cell → List ℤ → ℤ → Inverse → Type 0
FitTies p cell v den inverse = (j c : ℕ) → FitsTieAt p cell v den inverse j c

abbrev pub AreOver : Problem → Cell → Type 0
AreOver p cell = (j c : ℕ) → IsOverAt p cell j c
