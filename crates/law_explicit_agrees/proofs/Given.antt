-- An explicit text nests no deeper than what it gives.
use Rattle.std.proofs.Common.{◌≡◌, ℕ, ◌≤◌, zero, suc, max, List, ◌∷◌, Bool, true, false, None, if◌then◌else◌, sym, subst, arith}
use Rattle.std.proofs.Math.Nat.{le-max_left, le-max_right, max-le}
use Rattle.lf.specs.Depth.{depth, kind_depth, spine_depth, type_depth}
use Rattle.lf.specs.Entries.{Entry}
use Rattle.lf.specs.Syntax.{Head, Kind, LfType, Spine, Term as LfTerm, app, atom, kind_pi, lambda as lf_lambda, nil, pi as lf_pi, root, star as lf_star}
use Rattle.law_explicit_form.specs.Completion.{DomainGives, FamilyGives, KindGives, SpineGives, TermGives, TypeGives, then}
use Rattle.tw_approx.specs.Nesting.{domain_depth, is_kept, written_depth}
use Rattle.tw_fixity.specs.Names.{Names}
use Rattle.tw_names.specs.Scope.{binder_name}
use Rattle.tw_parse.specs.Syntax.{Domain, Term, application, arrow, identifier, lambda, pi, star, typed, untyped}

both_within : (a b m n : ℕ) → a ≤ m → b ≤ n → max a b ≤ max m n
both_within a b m n p q = let l = le-max_left m n in let r = le-max_right m n in max-le (omega (arith, p, l)) (omega (arith, q, r))

-- one argument more is as deep as the deeper of both
then_depth : (S : Spine) (R : LfTerm) → (spine_depth S ≤ spine_depth ((then) S R)) × (depth R ≤ spine_depth ((then) S R))
then_depth nil R = let l = le-max_left (depth R) zero in (omega arith, l)
then_depth (app M S) R =
    let (p, q) = then_depth S R in
    let r = le-max_right (depth M) (spine_depth ((then) S R)) in
    (both_within (depth M) (spine_depth S) (depth M) (spine_depth ((then) S R)) (omega arith) p, omega (arith, q, r))

-- A row is one level above what bounds its arguments, and where it isn't kept it is one level.
row_within : (kept : Bool) (m n k : ℕ) → m ≤ suc k → n ≤ k → (if kept then max m (suc n) else 1) ≤ suc k
row_within true m n k p q = max-le p (omega (arith, q))
row_within false m n k p q = omega arith

-- the arguments before one are no deeper than all
before_within : (S U : Spine) (R : LfTerm) (m : ℕ) → m ≤ suc (spine_depth U) → S ≡ (then) U R → m ≤ suc (spine_depth S)
before_within S U R m p e = let l = subst (λ X. spine_depth U ≤ spine_depth X) (sym e) (then_depth U R).0 in omega (arith, p, l)

last_within : (S U : Spine) (R : LfTerm) (m : ℕ) → m ≤ depth R → S ≡ (then) U R → m ≤ spine_depth S
last_within S U R m p e = let l = subst (λ X. depth R ≤ spine_depth X) (sym e) (then_depth U R).1 in omega (arith, p, l)

module _ (es : List Entry) where
  mutual
    pub term_depth_given : (M : Term) (N : Names) (G : List LfType) (A : LfType) (R : LfTerm) → TermGives es N G M A R → written_depth es M ≤ depth R
    term_depth_given (lambda x at D M) N G (lf_pi A B) (lf_lambda R) (d, m) = let l = term_depth_given M (binder_name x ∷ N) (A ∷ G) B R m in omega (arith, l)
    term_depth_given (identifier x at) N G (atom a S) (root h R) g = omega arith
    term_depth_given (application M P) N G (atom a S) (root h R) (A, B, U, L, b, g, e, f) =
        row_within (is_kept es M) (written_depth es M) (written_depth es P) (spine_depth R) (before_within R U L (written_depth es M) (spine_depth_given M N G h U (lf_pi A B) b) e)
        (last_within R U L (written_depth es P) (term_depth_given P N G A L g) e)
    term_depth_given M N G A R g = absurd g

    spine_depth_given : (M : Term) (N : Names) (G : List LfType) (h : Head) (S : Spine) (C : LfType) → SpineGives es N G M h S C → written_depth es M ≤ suc (spine_depth S)
    spine_depth_given (identifier x at) N G h S C g = omega arith
    spine_depth_given (application M P) N G h S C (A, B, U, L, b, g, e, f) =
        row_within (is_kept es M) (written_depth es M) (written_depth es P) (spine_depth S) (before_within S U L (written_depth es M) (spine_depth_given M N G h U (lf_pi A B) b) e)
        (last_within S U L (written_depth es P) (term_depth_given P N G A L g) e)
    spine_depth_given M N G h S C g = absurd g

  family_depth_given : (M : Term) (N : Names) (G : List LfType) (a : ℕ) (S : Spine) (L : Kind) → FamilyGives es N G M a S L → written_depth es M ≤ suc (spine_depth S)
  family_depth_given (identifier x at) N G a S L g = omega arith
  family_depth_given (application M P) N G a S L (A, K, U, R, b, g, e, f) =
      row_within (is_kept es M) (written_depth es M) (written_depth es P) (spine_depth S) (before_within S U R (written_depth es M) (family_depth_given M N G a U (kind_pi A K) b) e)
      (last_within S U R (written_depth es P) (term_depth_given P N G A R g) e)
  family_depth_given M N G a S L g = absurd g

  mutual
    pub type_depth_given : (U : Term) (N : Names) (G : List LfType) (A : LfType) → TypeGives es N G U A → written_depth es U ≤ type_depth A
    type_depth_given (arrow U V) N G (lf_pi A B) (u, v) =
        let l = both_within (written_depth es U) (written_depth es V) (type_depth A) (type_depth B) (type_depth_given U N G A u) (type_depth_given V (None ∷ N) (A ∷ G) B v) in omega (arith, l)
    type_depth_given (pi x at D V) N G (lf_pi A B) (d, v) =
        let l = both_within (domain_depth es D) (written_depth es V) (type_depth A) (type_depth B) (domain_depth_given D N G A d) (type_depth_given V (binder_name x ∷ N) (A ∷ G) B v) in omega (arith, l)
    type_depth_given (identifier x at) N G (atom a S) g = omega arith
    type_depth_given (application M P) N G (atom a S) g = family_depth_given (application M P) N G a S lf_star g
    type_depth_given U N G A g = absurd g

    pub domain_depth_given : (D : Domain) (N : Names) (G : List LfType) (A : LfType) → DomainGives es N G D A → domain_depth es D ≤ type_depth A
    domain_depth_given untyped N G A g = absurd g
    domain_depth_given (typed U) N G A g = type_depth_given U N G A g

  pub kind_depth_given : (U : Term) (N : Names) (G : List LfType) (K : Kind) → KindGives es N G U K → written_depth es U ≤ kind_depth K
  kind_depth_given star N G lf_star g = omega arith
  kind_depth_given (arrow U V) N G (kind_pi A K) (u, v) =
      let l = both_within (written_depth es U) (written_depth es V) (type_depth A) (kind_depth K) (type_depth_given U N G A u) (kind_depth_given V (None ∷ N) (A ∷ G) K v) in omega (arith, l)
  kind_depth_given (pi x at D V) N G (kind_pi A K) (d, v) =
      let l = both_within (domain_depth es D) (written_depth es V) (type_depth A) (kind_depth K) (domain_depth_given D N G A d) (kind_depth_given V (binder_name x ∷ N) (A ∷ G) K v) in omega (arith, l)
  kind_depth_given U N G K g = absurd g
