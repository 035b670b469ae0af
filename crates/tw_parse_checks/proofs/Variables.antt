-- Binders before what stands behind them.
use Rattle.std.proofs.Common.{◌≡◌, suc, List, [], ◌∷◌, ◌++◌, map, length, reverse, arith, Option, None, Some, Ok, Err, refl, sym, ap, subst, ◌∙◌}
use Rattle.std.proofs.lemmas.List.{reverse-append, length-reverse}
use Rattle.std.specs.declared.result.Result.{Result}
use Rattle.tw_lexer.specs.declared.place.Place.{Place}
use Rattle.tw_parse.specs.Outlines.{Outline}
use Rattle.tw_parse.specs.Readings.{FirstFault, FirstFaultIn, of_first, of_later}
use Rattle.tw_parse.specs.Syntax as syntax
use Rattle.tw_parse.specs.View.{term_of}
use Rattle.tw_parse.specs.declared.decl.ExtName.{ExtName}
use Rattle.tw_parse.specs.declared.parts.Part.{Part}
use Rattle.tw_parse.specs.declared.parts.Part.TheVariants.{Term, AtFault}
use Rattle.tw_parse_checks.specs.Faults.{types_with, types_in}
use Rattle.tw_parse_checks.specs.Meanings.{MeansDomain, no_type, a_type, Binds, no_variable, a_further_variable}
use Rattle.tw_parse_checks.specs.Parts.{TellsDomain, TellAll, bound_by, bound_over, name_in}
use Rattle.tw_parse_checks.specs.Shapes.{Binder}

abbrev folded : List Binder → List (Option Part) → Result syntax.Term Place → Result syntax.Term Place
folded [] [] r = r
folded (b ∷ bs) (p ∷ ps) r = bound_by b.variable p (folded bs ps r)
folded _ _ r = r

over_append : (xs ys : List ExtName) (ps ts : List (Option Part)) (r : Result syntax.Term Place) → length xs ≡ length ps → bound_over (xs ++ ys) (ps ++ ts) r ≡ bound_over ys ts (bound_over xs ps r)
over_append [] ys [] ts r e = refl
over_append [] ys (p ∷ ps) ts r e = absurd (omega (e, arith))
over_append (x ∷ xs) ys [] ts r e = absurd (omega (e, arith))
over_append (x ∷ xs) ys (p ∷ ps) ts r e = over_append xs ys ps ts (bound_by x p r) (omega (e, arith))

told_lengths : (bs : List Binder) (ps : List (Option Part)) → TellAll bs ps → length (map name_in bs) ≡ length ps
told_lengths [] [] t = refl
told_lengths [] (p ∷ ps) t = absurd t
told_lengths (b ∷ bs) [] t = absurd t
told_lengths (b ∷ bs) (p ∷ ps) t = ap suc (told_lengths bs ps t.1)

over_told : (bs : List Binder) (ps : List (Option Part)) (r : Result syntax.Term Place) → TellAll bs ps → bound_over (reverse (map name_in bs)) (reverse ps) r ≡ folded bs ps r
over_told [] [] r t = refl
over_told [] (p ∷ ps) r t = absurd t
over_told (b ∷ bs) [] r t = absurd t
over_told (b ∷ bs) (p ∷ ps) r t =
    let xs : List ExtName = map name_in bs in
    let same : length (reverse xs) ≡ length (reverse ps) = length-reverse xs ∙ told_lengths bs ps t.1 ∙ sym (length-reverse ps) in
    ap (λ (ys : List ExtName). bound_over ys (reverse (p ∷ ps)) r) (reverse-append (b.variable ∷ []) xs) ∙ ap (λ (ts : List (Option Part)). bound_over (reverse xs ++ b.variable ∷ []) ts r) (reverse-append (p ∷ []) ps)
    ∙ over_append (reverse xs) (b.variable ∷ []) (reverse ps) (p ∷ []) r same ∙ ap (bound_by b.variable p) (over_told bs ps r t.1)

-- what stands behind a binder was read, and its own type too
record IsBound (o : Option Outline) (p : Option Part) (x : ExtName) (r : Result syntax.Term Place) (C : syntax.Term) : Type 0 where
  domain : syntax.Domain
  body : syntax.Term
  means : MeansDomain o domain
  behind : r ≡ Ok body
  whole : syntax.pi x.name x.at domain body ≡ C

is_bound : (o : Option Outline) (p : Option Part) (x : ExtName) (r : Result syntax.Term Place) (C : syntax.Term) → TellsDomain o p → bound_by x p r ≡ Ok C → IsBound o p x r C
is_bound None None x (Ok B) C t e = record { domain = syntax.untyped; body = B; means = no_type; behind = refl; whole = let same : syntax.pi x.name x.at syntax.untyped B ≡ C = cc in same }
is_bound None None x (Err place) C t e = cc
is_bound None (Some p) x r C t e = absurd t
is_bound (Some U) None x r C t e = absurd t
is_bound (Some U) (Some (AtFault place)) x r C t e = cc
is_bound (Some U) (Some (Term A)) x (Ok B) C t e = record { domain = syntax.typed (term_of A); body = B; means = a_type t; behind = refl; whole = let same : syntax.pi x.name x.at (syntax.typed (term_of A)) B ≡ C = cc in same }
is_bound (Some U) (Some (Term A)) x (Err place) C t e = cc

-- what stands behind the binders was read
abbrev pub BindsSome : List Binder → Result syntax.Term Place → syntax.Term → Type 0
BindsSome bs r C = (B : syntax.Term) × (r ≡ Ok B) × Binds bs B C

told_binds : (bs : List Binder) (ps : List (Option Part)) (r : Result syntax.Term Place) (C : syntax.Term) → TellAll bs ps → folded bs ps r ≡ Ok C → BindsSome bs r C
told_binds [] [] r C t e = (C, e, no_variable)
told_binds [] (p ∷ ps) r C t e = absurd t
told_binds (b ∷ bs) [] r C t e = absurd t
told_binds (b ∷ bs) (p ∷ ps) r C t e =
    let is = is_bound b.type p b.variable (folded bs ps r) C t.0 e in
    let behind = told_binds bs ps r is.body t.1 is.behind in
    (behind.0, behind.1, subst (λ (E : syntax.Term). Binds (b ∷ bs) behind.0 E) is.whole (a_further_variable is.means behind.2))

-- the fault is the type's own, or one behind it
domain_fault : (o : Option Outline) (p : Option Part) (x : ExtName) (r : Result syntax.Term Place) (types : List Outline) (place : Place) → TellsDomain o p → (r ≡ Err place → FirstFaultIn types place) → bound_by x p r ≡ Err place → FirstFaultIn (types_with o types) place
domain_fault None None x (Ok B) types place t h e = cc
domain_fault None None x (Err at) types place t h e = h (let same : at ≡ place = cc in ap (λ (p : Place). Err p) same)
domain_fault None (Some p) x r types place t h e = absurd t
domain_fault (Some U) None x r types place t h e = absurd t
domain_fault (Some U) (Some (AtFault at)) x r types place t h e = let same : at ≡ place = cc in of_first (subst (FirstFault U) same t)
domain_fault (Some U) (Some (Term A)) x (Ok B) types place t h e = cc
domain_fault (Some U) (Some (Term A)) x (Err at) types place t h e = of_later (term_of A, t) (h (let same : at ≡ place = cc in ap (λ (p : Place). Err p) same))

with_append : (o : Option Outline) (Us Vs : List Outline) → types_with o Us ++ Vs ≡ types_with o (Us ++ Vs)
with_append None Us Vs = refl
with_append (Some U) Us Vs = refl

told_fault : (bs : List Binder) (ps : List (Option Part)) (r : Result syntax.Term Place) (types : List Outline) (place : Place) → TellAll bs ps → (r ≡ Err place → FirstFaultIn types place) → folded bs ps r ≡ Err place → FirstFaultIn (types_in bs ++ types) place
told_fault [] [] r types place t h e = h e
told_fault [] (p ∷ ps) r types place t h e = absurd t
told_fault (b ∷ bs) [] r types place t h e = absurd t
told_fault (b ∷ bs) (p ∷ ps) r types place t h e =
    subst (λ (Us : List Outline). FirstFaultIn Us place) (sym (with_append b.type (types_in bs) types)) (domain_fault b.type p b.variable (folded bs ps r) (types_in bs ++ types) place t.0 (told_fault bs ps r types place t.1 h) e)

pub types_append : (bs ds : List Binder) → types_in bs ++ types_in ds ≡ types_in (bs ++ ds)
types_append [] ds = refl
types_append (b ∷ bs) ds = with_append b.type (types_in bs) (types_in ds) ∙ ap (types_with b.type) (types_append bs ds)

pub bound_binds : (bs : List Binder) (variables : List ExtName) (ps : List (Option Part)) (r : Result syntax.Term Place) (C : syntax.Term) → variables ≡ map name_in bs → TellAll bs ps → Ok C ≡ bound_over (reverse variables) (reverse ps) r → BindsSome bs r C
bound_binds bs variables ps r C e t is =
    told_binds bs ps r C t (sym (over_told bs ps r t) ∙ ap (λ (xs : List ExtName). bound_over (reverse xs) (reverse ps) r) (sym e) ∙ sym is)

-- what stands behind the binders may be at fault itself
pub bound_fault : (bs : List Binder) (variables : List ExtName) (ps : List (Option Part)) (r : Result syntax.Term Place) (types : List Outline) (place : Place) → variables ≡ map name_in bs → TellAll bs ps → (r ≡ Err place → FirstFaultIn types place)
    → Err place ≡ bound_over (reverse variables) (reverse ps) r → FirstFaultIn (types_in bs ++ types) place
bound_fault bs variables ps r types place e t h is =
    told_fault bs ps r types place t h (sym (over_told bs ps r t) ∙ ap (λ (xs : List ExtName). bound_over (reverse xs) (reverse ps) r) (sym e) ∙ sym is)

-- what was bound behind other binders
pub binds_append : {bs ds : List Binder} {B C D : syntax.Term} → Binds ds B C → Binds bs C D → Binds (bs ++ ds) B D
binds_append b no_variable = b
binds_append b (a_further_variable m k) = a_further_variable m (binds_append b k)
