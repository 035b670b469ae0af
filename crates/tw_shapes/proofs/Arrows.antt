-- The step at an equation between arrows of the program.
use Rattle.std.proofs.Common.{◌≡◌, List, [], ◌∷◌, ◌++◌, length, Box, Global, sym, ap, ◌∙◌, subst}
use Rattle.tw_shapes.specs.Shapes.{arrow, IsWithin, Store}
use Rattle.tw_shapes.specs.Equations.{AllWithin, IsReplaced}
use Rattle.tw_shapes.specs.View.{shape_of}
use Rattle.tw_shapes.specs.EquationView.{equation_of, equations_of, between}
use Rattle.tw_shapes.specs.declared.equations.Equation.{Equation as RustEquation}
use Rattle.tw_shapes.specs.declared.shape.Shape.{Shape, Arrow}
use Rattle.tw_shapes.proofs.Views.{shape_of-Arrow}
use Rattle.tw_shapes.proofs.Equating.{seen-push, arrows-step}

abbrev pub pair : Shape → Shape → RustEquation
pair l r = record { left = l; right = r }

pub arrows-pushed : (s : Store) (a b c d : Box Shape Global) (other l l' r r' : Shape) (es fs gs : List RustEquation)
    → other ≡ Arrow c d → l ≡ a.value → l' ≡ b.value → r ≡ c.value → r' ≡ d.value → fs ≡ es ++ pair l' r' ∷ [] → gs ≡ fs ++ pair l r ∷ []
    → IsWithin (length s.places) (shape_of a.value) → IsWithin (length s.places) (shape_of b.value) → IsWithin (length s.places) (shape_of other) → AllWithin (length s.places) (equations_of es)
    → IsReplaced s (between (arrow (shape_of a.value) (shape_of b.value)) (shape_of other)) (equations_of es) (equations_of gs)
arrows-pushed s a b c d other l l' r r' es fs gs is p p' q q' e f i j k all =
    let o : shape_of other ≡ arrow (shape_of c.value) (shape_of d.value) = ap shape_of is ∙ shape_of-Arrow c d in
    let parts : IsWithin (length s.places) (arrow (shape_of c.value) (shape_of d.value)) = subst (IsWithin (length s.places)) o k in
    let n : equation_of (pair l r) ≡ between (shape_of a.value) (shape_of c.value) = ap (λ x. between (shape_of x) (shape_of r)) p ∙ ap (λ x. between (shape_of a.value) (shape_of x)) q in
    let m : equation_of (pair l' r') ≡ between (shape_of b.value) (shape_of d.value) = ap (λ x. between (shape_of x) (shape_of r')) p' ∙ ap (λ x. between (shape_of b.value) (shape_of x)) q' in
    let seen : equations_of gs ≡ (equations_of es ++ between (shape_of b.value) (shape_of d.value) ∷ []) ++ between (shape_of a.value) (shape_of c.value) ∷ [] =
    seen-push fs gs (pair l r) f ∙ (ap (λ x. equations_of fs ++ x ∷ []) n ∙ ap (λ x. x ++ between (shape_of a.value) (shape_of c.value) ∷ []) (seen-push es fs (pair l' r') e ∙ ap (λ x. equations_of es ++ x ∷ []) m)) in
    subst (λ S. IsReplaced s (between (arrow (shape_of a.value) (shape_of b.value)) S) (equations_of es) (equations_of gs)) (sym o)
    (subst (IsReplaced s (between (arrow (shape_of a.value) (shape_of b.value)) (arrow (shape_of c.value) (shape_of d.value))) (equations_of es)) (sym seen)
    (arrows-step s (shape_of a.value) (shape_of b.value) (shape_of c.value) (shape_of d.value) (equations_of es) i j parts.0 parts.1 all))
