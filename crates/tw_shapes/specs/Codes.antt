-- The code of a store, by which the value of a `Shapes` may be one.
use Rattle.std.specs.Prelude.{◌≡◌, ℕ, List, Option, refl}
use package.base.Stored.{Coded, Gv, gnil, gnum, gcons}
use Rattle.std.specs.Coded.{code_by, coded×, coded_ℕ, coded_list, coded_option}
use Rattle.tw_shapes.specs.Shapes.{Shape, variable, base, arrow, Store}

abbrev pub code_of_shape : Shape → Gv
code_of_shape (variable m) = gcons gnil (gnum m)
code_of_shape (base c) = gnum c
code_of_shape (arrow S T) = gcons (gcons gnil (code_of_shape S)) (code_of_shape T)

pub shape_code_injective : (S T : Shape) → code_of_shape S ≡ code_of_shape T → S ≡ T
shape_code_injective (variable m) (variable n) e = cc
shape_code_injective (variable m) (base d) e = cc
shape_code_injective (variable m) (arrow U V) e = cc
shape_code_injective (base c) (variable n) e = cc
shape_code_injective (base c) (base d) e = cc
shape_code_injective (base c) (arrow U V) e = cc
shape_code_injective (arrow S T) (variable n) e = cc
shape_code_injective (arrow S T) (base d) e = cc
shape_code_injective (arrow S T) (arrow U V) e = let left = shape_code_injective S U cc in let right = shape_code_injective T V cc in cc (left, right)

abbrev pub shape_code : Coded Shape
shape_code = record { code = code_of_shape; inj = shape_code_injective }

abbrev pub store_code : Coded Store
store_code = code_by (List (Option ℕ) × List Shape) (coded× (coded_list (coded_option coded_ℕ)) (coded_list shape_code)) (λ s. (s.places, s.values)) (λ p. record { places = p.0; values = p.1 }) (λ s. refl)
