-- The steps by which equations are solved.
use Rattle.std.proofs.Common.{◌≡◌, ℕ, ◌+◌, ◌<◌, List, [], ◌∷◌, ◌++◌, length, Some, None, Result, Ok, Err, IfOk, arith, refl, sym, ap, ◌∙◌, subst}
use Rattle.lf.specs.Syntax.{Skeleton, base as base_skeleton, arrow as arrow_skeleton}
use Rattle.tw_shapes.specs.Shapes.{Shape, variable, base, arrow, AllVariables, IsWithin, filled, Store, value_of, Solves}
use Rattle.tw_shapes.specs.Order.{IsOrdered}
use Rattle.tw_shapes.specs.Equations.{Equation, Holds, AllHold, EquationWithin, AllWithin, walk_of, walk_of_all, IsReplaced, IsUnsolvable, IsBinding, IsSolved, AreUnsolvable, AreBinding, IsPart}
use Rattle.tw_shapes.specs.EquationView.{equation_of, equations_of, StepIs, FreeStepIs, ComparedIs, between}
use Rattle.tw_shapes.specs.declared.equations.Equation.{Equation as RustEquation}
use Rattle.tw_shapes.specs.declared.equations.Step.{Step}
use Rattle.tw_shapes.specs.declared.equations.Step.TheVariants.{Goes, Fails, Binds}
use Rattle.tw_shapes.proofs.Walks.{followed}

-- Lists with one equation more.
pub hold-push : (θ : ℕ → Skeleton) (es : List Equation) (e : Equation) → AllHold θ es → Holds θ e → AllHold θ (es ++ e ∷ [])
hold-push θ [] e h p = (p, tt)
hold-push θ (f ∷ es) e h p = (h.0, hold-push θ es e h.1 p)

pub hold-pop : (θ : ℕ → Skeleton) (es : List Equation) (e : Equation) → AllHold θ (es ++ e ∷ []) → Holds θ e × AllHold θ es
hold-pop θ [] e h = (h.0, tt)
hold-pop θ (f ∷ es) e h = let r = hold-pop θ es e h.1 in (r.0, (h.0, r.1))

pub within-push : (n : ℕ) (es : List Equation) (e : Equation) → AllWithin n es → EquationWithin n e → AllWithin n (es ++ e ∷ [])
within-push n [] e h p = (p, tt)
within-push n (f ∷ es) e h p = (h.0, within-push n es e h.1 p)

pub within-pop : (n : ℕ) (es : List Equation) (e : Equation) → AllWithin n (es ++ e ∷ []) → EquationWithin n e × AllWithin n es
within-pop n [] e h = (h.0, tt)
within-pop n (f ∷ es) e h = let r = within-pop n es e h.1 in (r.0, (h.0, r.1))

pub walk-push : (s : Store) (es : List Equation) (e : Equation) → walk_of_all s (es ++ e ∷ []) ≡ walk_of_all s es + walk_of s e
walk-push s [] e = omega arith
walk-push s (f ∷ es) e = let h = walk-push s es e in omega arith

seen_append : (es : List RustEquation) (e : RustEquation) → equations_of (es ++ e ∷ []) ≡ equations_of es ++ equation_of e ∷ []
seen_append [] e = refl
seen_append (f ∷ es) e = ap (λ x. equation_of f ∷ x) (seen_append es e)

pub seen-push : (es fs : List RustEquation) (e : RustEquation) → fs ≡ es ++ e ∷ [] → equations_of fs ≡ equations_of es ++ equation_of e ∷ []
seen-push es fs e q = ap equations_of q ∙ seen_append es e

-- An equation is as good with its sides exchanged.
pub exchanged : (s : Store) (S T : Shape) (old new : List Equation) (r : Step) → StepIs s (between S T) old new r → StepIs s (between T S) old new r
exchanged s S T old new Goes h = record {
  within = h.within;
  kept = λ θ w a. let r = h.kept θ w a in (sym r.0, r.1);
  every = λ θ w p a. h.every θ w (sym p) a;
  shorter = let l = h.shorter in omega arith;
}
exchanged s S T old new Fails h = record { never = λ θ w p. h.never θ w (sym p) }
exchanged s S T old new (Binds m V) h = record { stay = h.stay; may = h.may; kept = λ θ w p. sym (h.kept θ w p); every = λ θ w p. h.every θ w (sym p) }

-- a bound variable is followed
pub follow-bound : (s : Store) → IsOrdered s → (m : ℕ) (V S : Shape) (es : List Equation) → value_of s m ≡ Some V → IsWithin (length s.places) S → AllWithin (length s.places) es
    → IsReplaced s (between (variable m) S) es (es ++ between V S ∷ [])
follow-bound s o m V S es e inside all = record {
  within = within-push (length s.places) es (between V S) all (o.within m V e, inside);
  kept = λ θ w a. let r = hold-pop θ es (between V S) a in (w.holds m V e ∙ r.0, r.1);
  every = λ θ w p a. hold-push θ es (between V S) a (sym (w.holds m V e) ∙ p);
  shorter = let a = walk-push s es (between V S) in let b = followed s o m V e in omega arith;
}

-- a free one, and a shape of free variables that is the other side
pub follow-free : (s : Store) (m : ℕ) (S R : Shape) (es : List Equation) (r : Step) → m < length s.places → value_of s m ≡ None → AllWithin (length s.places) es
    → ((θ : ℕ → Skeleton) → Solves θ s → filled θ R ≡ filled θ S) → AllVariables (λ n. value_of s n ≡ None) R → IsWithin (length s.places) R
    → FreeStepIs m R r → StepIs s (between (variable m) S) es es r
follow-free s m S R es Goes lt free all same frees inside h = record {
  within = all;
  kept = λ θ w a. (sym (ap (filled θ) h) ∙ same θ w, a);
  every = λ θ w p a. a;
  shorter = omega arith;
}
follow-free s m S R es Fails lt free all same frees inside h = record { never = λ θ w p. h θ (p ∙ sym (same θ w)) }
follow-free s m S R es (Binds n T) lt free all same frees inside h =
    subst (λ X. IsBinding s (between (variable m) S) es es n.0 X) (sym h.1)
    (subst (λ k. IsBinding s (between (variable m) S) es es k R) (sym h.0)
    (record {
      stay = refl;
      may = record { declared = lt; free = free; within = inside; frees = frees; others = h.2 };
      kept = λ θ w p. p ∙ same θ w;
      every = λ θ w p. p ∙ sym (same θ w);
    }))

-- families
pub compared-step : (s : Store) (c d : ℕ) (es : List Equation) (r : Step) → AllWithin (length s.places) es → ComparedIs c d r → StepIs s (between (base c) (base d)) es es r
compared-step s c d es Goes all h = record { within = all; kept = λ θ w a. (ap base_skeleton h, a); every = λ θ w p a. a; shorter = omega arith }
compared-step s c d es Fails all h = record { never = λ θ w p. h cc }
compared-step s c d es (Binds m S) all h = absurd h

pub base-no-arrow : (s : Store) (c : ℕ) (S T : Shape) → IsUnsolvable s (between (base c) (arrow S T))
base-no-arrow s c S T = record { never = λ θ w p. cc }

pub arrow-no-base : (s : Store) (c : ℕ) (S T : Shape) → IsUnsolvable s (between (arrow S T) (base c))
arrow-no-base s c S T = record { never = λ θ w p. cc }

-- both parts of arrows
pub arrows-step : (s : Store) (S T U V : Shape) (es : List Equation) → IsWithin (length s.places) S → IsWithin (length s.places) T → IsWithin (length s.places) U → IsWithin (length s.places) V → AllWithin (length s.places) es
    → IsReplaced s (between (arrow S T) (arrow U V)) es ((es ++ between T V ∷ []) ++ between S U ∷ [])
arrows-step s S T U V es i j k l all = record {
  within = within-push (length s.places) (es ++ between T V ∷ []) (between S U) (within-push (length s.places) es (between T V) all (j, l)) (i, k);
  kept = λ θ w a.
      let p = hold-pop θ (es ++ between T V ∷ []) (between S U) a in
      let q = hold-pop θ es (between T V) p.1 in
      (equal (filled θ S) (filled θ T) (filled θ U) (filled θ V) p.0 q.0, q.1);
  every = λ θ w p a.
      hold-push θ (es ++ between T V ∷ []) (between S U) (hold-push θ es (between T V) a (second (filled θ S) (filled θ T) (filled θ U) (filled θ V) p)) (first (filled θ S) (filled θ T) (filled θ U) (filled θ V) p);
  shorter = let a = walk-push s es (between T V) in let b = walk-push s (es ++ between T V ∷ []) (between S U) in omega arith;
}
  where
    equal : (a b c d : Skeleton) → a ≡ c → b ≡ d → arrow_skeleton a b ≡ arrow_skeleton c d
    equal a b c d p q = cc

    first : (a b c d : Skeleton) → arrow_skeleton a b ≡ arrow_skeleton c d → a ≡ c
    first a b c d p = cc

    second : (a b c d : Skeleton) → arrow_skeleton a b ≡ arrow_skeleton c d → b ≡ d
    second a b c d p = cc

-- One equation after the other.
pub part-begins : (s : Store) (es : List Equation) → AllWithin (length s.places) es → IsPart s es es
part-begins s es all = record { inside = all; kept = λ θ w a. a; every = λ θ w a. a }

pub popped-within : (s : Store) (old now rest : List Equation) (e : Equation) → IsPart s old now → now ≡ rest ++ e ∷ [] → EquationWithin (length s.places) e × AllWithin (length s.places) rest
popped-within s old now rest e h q = within-pop (length s.places) rest e (subst (AllWithin (length s.places)) q h.inside)

pub part-goes : (s : Store) (old now rest new : List Equation) (e : Equation) → IsPart s old now → now ≡ rest ++ e ∷ [] → IsReplaced s e rest new → IsPart s old new
part-goes s old now rest new e h q r = record {
  inside = r.within;
  kept = λ θ w a. let b = r.kept θ w a in h.kept θ w (subst (AllHold θ) (sym q) (hold-push θ rest e b.1 b.0));
  every = λ θ w a. let b = hold-pop θ rest e (subst (AllHold θ) q (h.every θ w a)) in r.every θ w b.0 b.1;
}

pub part-smaller : (s : Store) (now rest new : List Equation) (e : Equation) → now ≡ rest ++ e ∷ [] → IsReplaced s e rest new → walk_of_all s new < walk_of_all s now
part-smaller s now rest new e q r =
    let a : walk_of_all s now ≡ walk_of_all s rest + walk_of s e = ap (walk_of_all s) q ∙ walk-push s rest e in
    let b = r.shorter in
    omega arith

pub part-fails : (s : Store) (old now rest : List Equation) (e : Equation) → IsPart s old now → now ≡ rest ++ e ∷ [] → IsUnsolvable s e → AreUnsolvable s old
part-fails s old now rest e h q r = record { never = λ θ w a. let b = hold-pop θ rest e (subst (AllHold θ) q (h.every θ w a)) in r.never θ w b.0 }

pub part-binds : (s : Store) (old now rest new : List Equation) (e : Equation) (m : ℕ) (S : Shape) → IsPart s old now → now ≡ rest ++ e ∷ [] → IsBinding s e rest new m S → AreBinding s old new m S
part-binds s old now rest new e m S h q r = record {
  inside = subst (AllWithin (length s.places)) (sym r.stay) (popped-within s old now rest e h q).1;
  may = r.may;
  kept = λ θ w p a. h.kept θ w (subst (AllHold θ) (sym q) (hold-push θ rest e (subst (AllHold θ) r.stay a) (r.kept θ w p)));
  every = λ θ w a. let b = hold-pop θ rest e (subst (AllHold θ) q (h.every θ w a)) in (r.every θ w b.0, subst (AllHold θ) (sym r.stay) b.1);
}

pub part-ends : (s : Store) (old now : List Equation) → IsPart s old now → now ≡ [] → IsSolved s old
part-ends s old now h q = record { all = λ θ w. h.kept θ w (subst (AllHold θ) (sym q) tt) }

pub if_ok : {T E : Type 0} (r : Result T E) (P Q : T → Type 0) → ((x : T) → P x → Q x) → IfOk r P → IfOk r Q
if_ok (Ok x) P Q f p = f x p
if_ok (Err e) P Q f p = tt
