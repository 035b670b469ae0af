-- Bindings that come in place of equations.
use Rattle.std.proofs.Common.{◌≡◌, ℕ, List, length, Some, refl, sym, ◌∙◌, subst}
use Rattle.std.proofs.Math.ListN.{length-set}
use Rattle.tw_shapes.specs.Shapes.{Shape, Store, with_binding}
use Rattle.tw_shapes.specs.Order.{IsOrdered}
use Rattle.tw_shapes.specs.Equations.{Equation, AllWithin, IsSolved, AreUnsolvable, AreBinding, IsRound, Narrows}
use Rattle.tw_shapes.proofs.Binding.{value_here, bound-ordered, bound-kept, bound-every}

pub round-begins : (s : Store) (es : List Equation) → IsOrdered s → AllWithin (length s.places) es → IsRound s s es es
round-begins s es o all = record { ordered = o; inside = all; count = refl; kept = λ θ w. w; back = λ θ w a. a; every = λ θ w a. (w, a) }

round_binds : (first s : Store) (given left new : List Equation) (m : ℕ) (S : Shape) → IsRound first s given left → AreBinding s left new m S → IsRound first (with_binding s m S) given new
round_binds first s given left new m S h b = record {
  ordered = bound-ordered s h.ordered m S b.may.declared b.may.free b.may.within b.may.frees b.may.others;
  inside = subst (λ n. AllWithin n new) (sym (length-set s.places m (Some (length s.values)))) b.inside;
  count = length-set s.places m (Some (length s.values)) ∙ h.count;
  kept = λ θ w. h.kept θ (bound-kept s h.ordered m S b.may.free θ w);
  back = λ θ w a. let u = bound-kept s h.ordered m S b.may.free θ w in h.back θ u (b.kept θ u (w.holds m S (value_here s m S b.may.declared)) a);
  every = λ θ w a. let p = h.every θ w a in let q = b.every θ p.0 p.1 in (bound-every s h.ordered m S b.may.declared θ p.0 q.0, q.1);
}

pub round-binds : (first s t : Store) (given left new : List Equation) (m : ℕ) (S : Shape) → IsRound first s given left → AreBinding s left new m S → t ≡ with_binding s m S → IsRound first t given new
round-binds first s t given left new m S h b e = subst (λ x. IsRound first x given new) (sym e) (round_binds first s given left new m S h b)

pub round-narrows : (first s : Store) (given left : List Equation) → IsRound first s given left → Narrows first s given
round-narrows first s given left h = record { count = h.count; kept = h.kept; every = λ θ w a. (h.every θ w a).0 }

pub round-solved : (first s : Store) (given left : List Equation) → IsRound first s given left → IsSolved s left → IsSolved s given
round-solved first s given left h r = record { all = λ θ w. h.back θ w (r.all θ w) }

pub round-fails : (first s : Store) (given left : List Equation) → IsRound first s given left → AreUnsolvable s left → AreUnsolvable first given
round-fails first s given left h r = record { never = λ θ w a. let p = h.every θ w a in r.never θ p.0 p.1 }
