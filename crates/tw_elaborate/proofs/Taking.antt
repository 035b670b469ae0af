-- New metavariables, step by step.
use Rattle.std.proofs.Common.{◌≡◌, ℕ, suc, ◌+◌, ◌-◌, ◌<◌, List, [], ◌∷◌, ◌++◌, refl, sym, ap, ◌∙◌, subst, arith}
use Rattle.lf.specs.Depth.{depth_limit, kind_depth, type_depth}
use Rattle.lf.specs.Eta.{append}
use Rattle.lf.specs.Syntax.{Kind, LfType, Spine, Term, app, kind_pi, nil, pi, star}
use Rattle.lf.specs.Typing.{instantiate_kind, instantiate_type}
use Rattle.lf_elaboration.specs.Elaboration.{KindTakesNew, TakesAllNew, TakesNew, kind_takes_next, kind_takes_none, takes_all, takes_first, takes_next, takes_none}
use Rattle.lf_elaboration.specs.State.{State, with_metavariable}
use Rattle.lf_unification.specs.Offering.{raised}
use Rattle.tw_terms.specs.OpenView.{open_args_of, open_term_of}
use Rattle.tw_terms.specs.declared.open_terms.Open.{Open}
use Rattle.tw_prune.proofs.Walking.{append-nil}
use Rattle.tw_open.specs.Fits.{KindStands, TypeStands}
use Rattle.tw_open.specs.Fresh.{declares_nothing}
use Rattle.tw_elaborate.specs.Fresh.{Keeps, KindTakesOne, TakesOne}
use Rattle.tw_elaborate.specs.NewDeep.{KindTakesNewDeep, KindTakesOneDeep, TakesAllNewDeep, TakesNewDeep, TakesOneDeep, all_deep_later_new, all_deep_new, deep_later_new, deep_new, kind_deep_later_new, kind_deep_new}
use Rattle.tw_elaborate.specs.View.{made}
use Rattle.tw_elaborate.specs.declared.state.Elaboration.{Elaboration}
use Rattle.tw_open.proofs.NewTerms.{declares_then, longer}
use Rattle.tw_open.proofs.Standing.{kind_rest_stands, rest_stands}

pub keeps_same : (a : Elaboration) → Keeps a a
keeps_same a = record { locals = refl; store = declares_nothing }

pub keeps_then : (a b c : Elaboration) → Keeps a b → Keeps b c → Keeps a c
keeps_then a b c k l = record { locals = l.locals ∙ k.locals; store = declares_then k.store l.store }

-- what stands after one
pub stands_after : (X Y : LfType) (M : Term) (a b : Elaboration) → Keeps a b → TakesOne X M Y a b → TypeStands (made a) a.locals X → TypeStands (made b) b.locals Y
stands_after X Y M a b k o f =
    let g : TypeStands (made a) a.locals (pi o.domain o.range) = subst (TypeStands (made a) a.locals) o.is f in
    let y : Y ≡ instantiate_type o.domain (raised a.locals o.domain (made a).next) o.range = o.left_over ∙ ap (λ N. instantiate_type o.domain N o.range) o.fresh.term in
    subst (TypeStands (made b) b.locals) (sym y) (subst (λ E. TypeStands (made b) E (instantiate_type o.domain (raised a.locals o.domain (made a).next) o.range)) (sym k.locals)
    (subst (λ z. TypeStands z a.locals (instantiate_type o.domain (raised a.locals o.domain (made a).next) o.range)) (sym o.fresh.state) (rest_stands (made a) a.locals o.domain o.range g)))

pub kind_stands_after : (K L : Kind) (M : Term) (a b : Elaboration) → Keeps a b → KindTakesOne K M L a b → KindStands (made a) a.locals K → KindStands (made b) b.locals L
kind_stands_after K L M a b k o f =
    let g : KindStands (made a) a.locals (kind_pi o.domain o.range) = subst (KindStands (made a) a.locals) o.is f in
    let y : L ≡ instantiate_kind o.domain (raised a.locals o.domain (made a).next) o.range = o.left_over ∙ ap (λ N. instantiate_kind o.domain N o.range) o.fresh.term in
    subst (KindStands (made b) b.locals) (sym y) (subst (λ E. KindStands (made b) E (instantiate_kind o.domain (raised a.locals o.domain (made a).next) o.range)) (sym k.locals)
    (subst (λ z. KindStands z a.locals (instantiate_kind o.domain (raised a.locals o.domain (made a).next) o.range)) (sym o.fresh.state) (kind_rest_stands (made a) a.locals o.domain o.range g)))

-- i of n arguments are taken, and these are the terms
pub record TakesBefore (n : ℕ) (D : List LfType) (A : LfType) (s : State) (i : ℕ) (B : LfType) (t : State) (ts : List Open) : Type 0 where
  pub rest : (s' : State) (S : Spine) (C : LfType) → TakesNew (n - i) D B t s' S C → TakesNew n D A s s' (append (open_args_of ts) S) C
  pub deep : TakesNewDeep (n - i) D B t → TakesNewDeep n D A s

pub takes_start : (n : ℕ) (D : List LfType) (A : LfType) (s : State) → TakesBefore n D A s 0 A s []
takes_start n D A s = record { rest = λ s' S C d. subst (λ k. TakesNew k D A s s' S C) (omega arith) d; deep = λ h. subst (λ k. TakesNewDeep k D A s) (omega arith) h }

pub takes_step : (n i : ℕ) (D : List LfType) (A X Y : LfType) (s : State) (ts us : List Open) (m : Open) (a b : Elaboration) → i < n → a.locals ≡ D → us ≡ ts ++ m ∷ [] → TakesOne X (open_term_of m) Y a b → TakesBefore n D A s i X (made a) ts → TakesBefore n D A s (i + 1) Y (made b) us
takes_step n i D A X Y s ts us m a b h l u o f = record { rest = rest; deep = λ d. f.deep (one_deep d) }
  where
    M : Term
    M = open_term_of m

    one : (s' : State) (S : Spine) (C : LfType) → TakesNew (n - (i + 1)) D Y (made b) s' S C → TakesNew (n - i) D X (made a) s' (app M S) C
    one s' S C d =
        let y : Y ≡ instantiate_type o.domain (raised D o.domain (made a).next) o.range = o.left_over ∙ ap (λ N. instantiate_type o.domain N o.range) o.fresh.term ∙ ap (λ E. instantiate_type o.domain (raised E o.domain (made a).next) o.range) l in
        let z : made b ≡ with_metavariable D o.domain (made a) = o.fresh.state ∙ ap (λ E. with_metavariable E o.domain (made a)) l in
        let t : M ≡ raised D o.domain (made a).next = o.fresh.term ∙ ap (λ E. raised E o.domain (made a).next) l in
        let q : suc (n - (i + 1)) ≡ n - i = omega arith in
        let e : TakesNew (suc (n - (i + 1))) D (pi o.domain o.range) (made a) s' (app (raised D o.domain (made a).next) S) C = takes_next (subst (λ w. TakesNew (n - (i + 1)) D (instantiate_type o.domain (raised D o.domain (made a).next) o.range) w s' S C) z (subst (λ V. TakesNew (n - (i + 1)) D V (made b) s' S C) y d)) in
        subst (λ k. TakesNew k D X (made a) s' (app M S) C) q (subst (λ V. TakesNew (suc (n - (i + 1))) D V (made a) s' (app M S) C) (sym o.is) (subst (λ N. TakesNew (suc (n - (i + 1))) D (pi o.domain o.range) (made a) s' (app N S) C) (sym t) e))

    rest : (s' : State) (S : Spine) (C : LfType) → TakesNew (n - (i + 1)) D Y (made b) s' S C → TakesNew n D A s s' (append (open_args_of us) S) C
    rest s' S C d = subst (λ T. TakesNew n D A s s' T C) (longer ts us m S u) (f.rest s' (app M S) C (one s' S C d))

    one_deep : TakesNewDeep (n - (i + 1)) D Y (made b) → TakesNewDeep (n - i) D X (made a)
    one_deep d =
        let y : Y ≡ instantiate_type o.domain (raised D o.domain (made a).next) o.range = o.left_over ∙ ap (λ N. instantiate_type o.domain N o.range) o.fresh.term ∙ ap (λ E. instantiate_type o.domain (raised E o.domain (made a).next) o.range) l in
        let z : made b ≡ with_metavariable D o.domain (made a) = o.fresh.state ∙ ap (λ E. with_metavariable E o.domain (made a)) l in
        let q : suc (n - (i + 1)) ≡ n - i = omega arith in
        let e : TakesNewDeep (suc (n - (i + 1))) D (pi o.domain o.range) (made a) = deep_later_new (subst (TakesNewDeep (n - (i + 1)) D (instantiate_type o.domain (raised D o.domain (made a).next) o.range)) z (subst (λ V. TakesNewDeep (n - (i + 1)) D V (made b)) y d)) in
        subst (λ k. TakesNewDeep k D X (made a)) q (subst (λ V. TakesNewDeep (suc (n - (i + 1))) D V (made a)) (sym o.is) e)

-- what is left behind the next one is deep
pub takes_deep : (n i : ℕ) (D : List LfType) (A X : LfType) (s : State) (ts : List Open) (a : Elaboration) → i < n → a.locals ≡ D → TakesOneDeep X a → TakesBefore n D A s i X (made a) ts → TakesNewDeep n D A s
takes_deep n i D A X s ts a h l o f =
    let q : suc (n - (i + 1)) ≡ n - i = omega arith in
    let d = subst (λ E. depth_limit < type_depth (instantiate_type o.domain (raised E o.domain (made a).next) o.range)) l o.deep in
    f.deep (subst (λ k. TakesNewDeep k D X (made a)) q (subst (λ V. TakesNewDeep (suc (n - (i + 1))) D V (made a)) (sym o.is) (deep_new d)))

pub takes_end : (n i : ℕ) (D : List LfType) (A B : LfType) (s t : State) (ts : List Open) (S : Spine) → i ≡ n → S ≡ open_args_of ts → TakesBefore n D A s i B t ts → TakesNew n D A s t S B
takes_end n i D A B s t ts S e q f = subst (λ T. TakesNew n D A s t T B) (append-nil (open_args_of ts) ∙ sym q) (f.rest t nil B (subst (λ k. TakesNew k D B t t nil B) (omega (arith, e)) takes_none))

-- the same of a kind
pub record KindTakesBefore (n : ℕ) (D : List LfType) (K : Kind) (s : State) (i : ℕ) (L : Kind) (t : State) (ts : List Open) : Type 0 where
  pub rest : (s' : State) (S : Spine) (C : Kind) → KindTakesNew (n - i) D L t s' S C → KindTakesNew n D K s s' (append (open_args_of ts) S) C
  pub deep : KindTakesNewDeep (n - i) D L t → KindTakesNewDeep n D K s

pub kind_takes_start : (n : ℕ) (D : List LfType) (K : Kind) (s : State) → KindTakesBefore n D K s 0 K s []
kind_takes_start n D K s = record { rest = λ s' S C d. subst (λ k. KindTakesNew k D K s s' S C) (omega arith) d; deep = λ h. subst (λ k. KindTakesNewDeep k D K s) (omega arith) h }

pub kind_takes_step : (n i : ℕ) (D : List LfType) (K X Y : Kind) (s : State) (ts us : List Open) (m : Open) (a b : Elaboration) → i < n → a.locals ≡ D → us ≡ ts ++ m ∷ [] → KindTakesOne X (open_term_of m) Y a b → KindTakesBefore n D K s i X (made a) ts → KindTakesBefore n D K s (i + 1) Y (made b) us
kind_takes_step n i D K X Y s ts us m a b h l u o f = record { rest = rest; deep = λ d. f.deep (one_deep d) }
  where
    M : Term
    M = open_term_of m

    one : (s' : State) (S : Spine) (C : Kind) → KindTakesNew (n - (i + 1)) D Y (made b) s' S C → KindTakesNew (n - i) D X (made a) s' (app M S) C
    one s' S C d =
        let y : Y ≡ instantiate_kind o.domain (raised D o.domain (made a).next) o.range = o.left_over ∙ ap (λ N. instantiate_kind o.domain N o.range) o.fresh.term ∙ ap (λ E. instantiate_kind o.domain (raised E o.domain (made a).next) o.range) l in
        let z : made b ≡ with_metavariable D o.domain (made a) = o.fresh.state ∙ ap (λ E. with_metavariable E o.domain (made a)) l in
        let t : M ≡ raised D o.domain (made a).next = o.fresh.term ∙ ap (λ E. raised E o.domain (made a).next) l in
        let q : suc (n - (i + 1)) ≡ n - i = omega arith in
        let e : KindTakesNew (suc (n - (i + 1))) D (kind_pi o.domain o.range) (made a) s' (app (raised D o.domain (made a).next) S) C = kind_takes_next (subst (λ w. KindTakesNew (n - (i + 1)) D (instantiate_kind o.domain (raised D o.domain (made a).next) o.range) w s' S C) z (subst (λ V. KindTakesNew (n - (i + 1)) D V (made b) s' S C) y d)) in
        subst (λ k. KindTakesNew k D X (made a) s' (app M S) C) q (subst (λ V. KindTakesNew (suc (n - (i + 1))) D V (made a) s' (app M S) C) (sym o.is) (subst (λ N. KindTakesNew (suc (n - (i + 1))) D (kind_pi o.domain o.range) (made a) s' (app N S) C) (sym t) e))

    rest : (s' : State) (S : Spine) (C : Kind) → KindTakesNew (n - (i + 1)) D Y (made b) s' S C → KindTakesNew n D K s s' (append (open_args_of us) S) C
    rest s' S C d = subst (λ T. KindTakesNew n D K s s' T C) (longer ts us m S u) (f.rest s' (app M S) C (one s' S C d))

    one_deep : KindTakesNewDeep (n - (i + 1)) D Y (made b) → KindTakesNewDeep (n - i) D X (made a)
    one_deep d =
        let y : Y ≡ instantiate_kind o.domain (raised D o.domain (made a).next) o.range = o.left_over ∙ ap (λ N. instantiate_kind o.domain N o.range) o.fresh.term ∙ ap (λ E. instantiate_kind o.domain (raised E o.domain (made a).next) o.range) l in
        let z : made b ≡ with_metavariable D o.domain (made a) = o.fresh.state ∙ ap (λ E. with_metavariable E o.domain (made a)) l in
        let q : suc (n - (i + 1)) ≡ n - i = omega arith in
        let e : KindTakesNewDeep (suc (n - (i + 1))) D (kind_pi o.domain o.range) (made a) = kind_deep_later_new (subst (KindTakesNewDeep (n - (i + 1)) D (instantiate_kind o.domain (raised D o.domain (made a).next) o.range)) z (subst (λ V. KindTakesNewDeep (n - (i + 1)) D V (made b)) y d)) in
        subst (λ k. KindTakesNewDeep k D X (made a)) q (subst (λ V. KindTakesNewDeep (suc (n - (i + 1))) D V (made a)) (sym o.is) e)

-- what is left behind the next one is deep
pub kind_takes_deep : (n i : ℕ) (D : List LfType) (A X : Kind) (s : State) (ts : List Open) (a : Elaboration) → i < n → a.locals ≡ D → KindTakesOneDeep X a → KindTakesBefore n D A s i X (made a) ts → KindTakesNewDeep n D A s
kind_takes_deep n i D A X s ts a h l o f =
    let q : suc (n - (i + 1)) ≡ n - i = omega arith in
    let d = subst (λ E. depth_limit < kind_depth (instantiate_kind o.domain (raised E o.domain (made a).next) o.range)) l o.deep in
    f.deep (subst (λ k. KindTakesNewDeep k D X (made a)) q (subst (λ V. KindTakesNewDeep (suc (n - (i + 1))) D V (made a)) (sym o.is) (kind_deep_new d)))

pub kind_takes_end : (n i : ℕ) (D : List LfType) (K L : Kind) (s t : State) (ts : List Open) (S : Spine) → i ≡ n → S ≡ open_args_of ts → KindTakesBefore n D K s i L t ts → KindTakesNew n D K s t S L
kind_takes_end n i D K L s t ts S e q f = subst (λ T. KindTakesNew n D K s t T L) (append-nil (open_args_of ts) ∙ sym q) (f.rest t nil L (subst (λ k. KindTakesNew k D L t t nil L) (omega (arith, e)) kind_takes_none))

-- all arguments of a kind, those so far
pub record TakesAllBefore (D : List LfType) (K : Kind) (s : State) (L : Kind) (t : State) (ts : List Open) : Type 0 where
  pub rest : (s' : State) (S : Spine) → TakesAllNew D L t s' S → TakesAllNew D K s s' (append (open_args_of ts) S)
  pub deep : TakesAllNewDeep D L t → TakesAllNewDeep D K s

pub takes_all_start : (D : List LfType) (K : Kind) (s : State) → TakesAllBefore D K s K s []
takes_all_start D K s = record { rest = λ s' S d. d; deep = λ d. d }

pub takes_all_step : (D : List LfType) (K X Y : Kind) (s : State) (ts us : List Open) (m : Open) (a b : Elaboration) → a.locals ≡ D → us ≡ ts ++ m ∷ [] → KindTakesOne X (open_term_of m) Y a b → TakesAllBefore D K s X (made a) ts → TakesAllBefore D K s Y (made b) us
takes_all_step D K X Y s ts us m a b l u o f = record { rest = rest; deep = λ d. f.deep (one_deep d) }
  where
    M : Term
    M = open_term_of m

    one : (s' : State) (S : Spine) → TakesAllNew D Y (made b) s' S → TakesAllNew D X (made a) s' (app M S)
    one s' S d =
        let y : Y ≡ instantiate_kind o.domain (raised D o.domain (made a).next) o.range = o.left_over ∙ ap (λ N. instantiate_kind o.domain N o.range) o.fresh.term ∙ ap (λ E. instantiate_kind o.domain (raised E o.domain (made a).next) o.range) l in
        let z : made b ≡ with_metavariable D o.domain (made a) = o.fresh.state ∙ ap (λ E. with_metavariable E o.domain (made a)) l in
        let t : M ≡ raised D o.domain (made a).next = o.fresh.term ∙ ap (λ E. raised E o.domain (made a).next) l in
        let e : TakesAllNew D (kind_pi o.domain o.range) (made a) s' (app (raised D o.domain (made a).next) S) = takes_first (subst (λ w. TakesAllNew D (instantiate_kind o.domain (raised D o.domain (made a).next) o.range) w s' S) z (subst (λ V. TakesAllNew D V (made b) s' S) y d)) in
        subst (λ V. TakesAllNew D V (made a) s' (app M S)) (sym o.is) (subst (λ N. TakesAllNew D (kind_pi o.domain o.range) (made a) s' (app N S)) (sym t) e)

    rest : (s' : State) (S : Spine) → TakesAllNew D Y (made b) s' S → TakesAllNew D K s s' (append (open_args_of us) S)
    rest s' S d = subst (TakesAllNew D K s s') (longer ts us m S u) (f.rest s' (app M S) (one s' S d))

    one_deep : TakesAllNewDeep D Y (made b) → TakesAllNewDeep D X (made a)
    one_deep d =
        let y : Y ≡ instantiate_kind o.domain (raised D o.domain (made a).next) o.range = o.left_over ∙ ap (λ N. instantiate_kind o.domain N o.range) o.fresh.term ∙ ap (λ E. instantiate_kind o.domain (raised E o.domain (made a).next) o.range) l in
        let z : made b ≡ with_metavariable D o.domain (made a) = o.fresh.state ∙ ap (λ E. with_metavariable E o.domain (made a)) l in
        subst (λ V. TakesAllNewDeep D V (made a)) (sym o.is) (all_deep_later_new (subst (TakesAllNewDeep D (instantiate_kind o.domain (raised D o.domain (made a).next) o.range)) z (subst (λ V. TakesAllNewDeep D V (made b)) y d)))

pub takes_all_deep : (D : List LfType) (K X : Kind) (s : State) (ts : List Open) (a : Elaboration) → a.locals ≡ D → KindTakesOneDeep X a → TakesAllBefore D K s X (made a) ts → TakesAllNewDeep D K s
takes_all_deep D K X s ts a l o f =
    let d = subst (λ E. depth_limit < kind_depth (instantiate_kind o.domain (raised E o.domain (made a).next) o.range)) l o.deep in
    f.deep (subst (λ V. TakesAllNewDeep D V (made a)) (sym o.is) (all_deep_new d))

pub takes_all_end : (D : List LfType) (K L : Kind) (s t : State) (ts : List Open) (S : Spine) → L ≡ star → S ≡ open_args_of ts → TakesAllBefore D K s L t ts → TakesAllNew D K s t S
takes_all_end D K L s t ts S e q f = subst (TakesAllNew D K s t) (append-nil (open_args_of ts) ∙ sym q) (f.rest t nil (subst (λ X. TakesAllNew D X t t nil) (sym e) takes_all))
