-- Cases of layers: as which point a point is asked of the book below them all.
use Rattle.std.specs.Prelude.{◌≡◌, Bool, true, ◌&&◌, List, [], ◌∷◌, codes, ◌==◌, refl}
use Rattle.digits.specs.Positional.{big_endian, places}
use Rattle.values.specs.Labels.{is_point_number}
use Rattle.values.specs.declared.labels.Point.{Point}
use Rattle.books.specs.declared.correlation.Pair.{Pair}
use Rattle.books.specs.Books.{pair_of, asked_as}

-- three points
pub is_a : is_point_number (big_endian (codes "A         ")) ≡ true
unfolding places
is_a = refl

pub is_b : is_point_number (big_endian (codes "B         ")) ≡ true
unfolding places
is_b = refl

pub is_c : is_point_number (big_endian (codes "C         ")) ≡ true
unfolding places
is_c = refl

abbrev pub point_a : Point
point_a = record { number = big_endian (codes "A         "); ok = is_a }

abbrev pub point_b : Point
point_b = record { number = big_endian (codes "B         "); ok = is_b }

abbrev pub point_c : Point
point_c = record { number = big_endian (codes "C         "); ok = is_c }

-- through layers, the upper one first
abbrev pub through : List (List Pair) → Point → Point
through [] p = p
through (pairs ∷ layers) p = through layers (asked_as pairs p)

pub record Case : Type 0 where
  pub layers : List (List Pair)
  pub point : Point
  pub expected : Point

abbrev pub case : List (List Pair) → Point → Point → Case
case ls p q = record { layers = ls; point = p; expected = q }

-- A stands for B, and B for C
abbrev pub ab : Pair
ab = pair_of point_a point_b

abbrev pub bc : Pair
bc = pair_of point_b point_c

abbrev pub cases : List Case
cases =
    -- one layer replaces a point once
    case ((ab ∷ bc ∷ []) ∷ []) point_a point_b
    ∷ case ((ab ∷ bc ∷ []) ∷ []) point_b point_c
    ∷ case ((ab ∷ bc ∷ []) ∷ []) point_c point_c
    -- a layer below may replace it again
    ∷ case ((ab ∷ []) ∷ (bc ∷ []) ∷ []) point_a point_c
    ∷ case ((bc ∷ []) ∷ (ab ∷ []) ∷ []) point_a point_b
    ∷ case ((bc ∷ []) ∷ (ab ∷ []) ∷ []) point_b point_c
    -- a point may stand for itself, and two points for one
    ∷ case ((pair_of point_a point_a ∷ []) ∷ []) point_a point_a
    ∷ case ((pair_of point_a point_c ∷ bc ∷ []) ∷ []) point_a point_c
    ∷ case ((pair_of point_a point_c ∷ bc ∷ []) ∷ []) point_b point_c
    ∷ []

abbrev pub all_as_expected : List Case → Bool
all_as_expected [] = true
all_as_expected (c ∷ cs) = (through c.layers c.point).number == c.expected.number && all_as_expected cs

abbrev pub AsLayersPile : Type 0
AsLayersPile = all_as_expected cases ≡ true
