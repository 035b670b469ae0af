use Rattle.std.specs.Global.{Global}
use Rattle.std.proofs.Common.{◌≡◌, ◌∙◌, Box, Err, List, [], ◌∷◌, map, None, Some, refl, sym, subst}
use Rattle.std.specs.List.{slice_get}
use Rattle.lf_unification.specs.Unifiers.{Equation}
use Rattle.tw_hered.specs.declared.fault.HeredFault.TheVariants.{TooDeep}
use Rattle.tw_metas.specs.View.{kept_equation_of}
use Rattle.tw_metas.specs.declared.equation.Equation.{Equation as Postponed}
use Rattle.tw_search.specs.Left.{BlamesFirst}
use Rattle.tw_search.specs.Standing.{asked_of}
use Rattle.tw_search.proofs.Going.{answer_shown, deep_shown, is_leaf, left_deep_shown, left_shown}
use Rattle.tw_search.proofs.Leaving.{at_list}
use Rattle.tw_search.proofs.search.Search.leaf.Goals as goal

-- the first equation, if there is one
none_first : (qs : List (Box Postponed Global)) (fs : List Equation) → map kept_equation_of qs ≡ fs → None ≡ slice_get qs 0 → fs ≡ []
none_first [] fs e n = sym e
none_first (q ∷ qs) fs e n = absurd cc

some_first : (qs : List (Box Postponed Global)) (fs : List Equation) (q : Box Postponed Global) → map kept_equation_of qs ≡ fs → Some q ≡ slice_get qs 0 → (first : Equation) × (rest : List Equation) × (fs ≡ first ∷ rest)
some_first [] fs q e s = absurd cc
some_first (p ∷ qs) fs q e s = (kept_equation_of p, map kept_equation_of qs, sym e)

pub first_equation-requires-clause-ready : goal.first_equation-requires-clause-ready
first_equation-requires-clause-ready c =
    let old = c.args.self.now in
    let es = c.args.signature.now in
    let (agenda, w) = c.requires.at in
    let n = at_list es old c.args.list agenda c.requires.place w in
    n.kept.ready

pub first_equation-requires-clause-first : goal.first_equation-requires-clause-first
first_equation-requires-clause-first c = some_first c.equations.result.now c.args.self.now.store.now.equations c.in-Some.field-0.now c.equations.ensures c.in-Some.ensures.value

pub read_answer-requires : goal.read_answer-requires
read_answer-requires c =
    let old = c.args.self.now in
    let es = c.args.signature.now in
    let (agenda, w) = c.requires.at in
    is_leaf es old old c.args.list agenda (at_list es old c.args.list agenda c.requires.place w) c.is_canonical.ensures c.requires.first (none_first c.equations.result.now old.store.now.equations c.equations.ensures c.in-None.ensures.value)

pub returns-in-Ok-clause-came : goal.returns-in-Ok-clause-came
returns-in-Ok-clause-came c = λ G len agenda w budget.
    let old = c.args.self.now in
    let es = c.args.signature.now in
    left_shown es old _ c.args.list agenda (at_list es old c.args.list agenda c.requires.place w) c.is_canonical.ensures c.requires.first G len budget refl refl refl refl refl refl refl w.1 c.in-Ok.left c.in-Ok.ensures

pub returns-in-Err-TooDeep-clause-came : goal.returns-in-Err-TooDeep-clause-came
returns-in-Err-TooDeep-clause-came c = λ G len agenda w budget.
    let old = c.args.self.now in
    let es = c.args.signature.now in
    let (e, fs, q) = some_first c.equations.result.now old.store.now.equations c.in-Some.field-0.now c.equations.ensures c.in-Some.ensures.value in
    left_deep_shown es old _ c.args.list agenda (at_list es old c.args.list agenda c.requires.place w) c.is_canonical.ensures c.requires.first G len budget refl refl refl e fs q
    (subst (λ f. BlamesFirst f old.store.now (asked_of old)) c.in-Err-TooDeep.field-0-is c.in-Err-TooDeep.ensures) refl

pub returns-in-Ok-read_answer-clause-came : goal.returns-in-Ok-read_answer-clause-came
returns-in-Ok-read_answer-clause-came c = λ G len agenda w budget.
    let old = c.args.self.now in
    let es = c.args.signature.now in
    answer_shown es old _ c.args.list agenda (at_list es old c.args.list agenda c.requires.place w) c.is_canonical.ensures c.requires.first G len budget refl refl refl refl refl refl refl w.1
    (none_first c.equations.result.now old.store.now.equations c.equations.ensures c.in-None.ensures.value) c.in-Ok-read_answer.answer (c.in-Ok-read_answer.ensures.proof ∙ c.is_some.ensures) c.in-Ok-read_answer.ensures.read

pub returns-in-Err-TooDeep-read_answer-clause-came : goal.returns-in-Err-TooDeep-read_answer-clause-came
returns-in-Err-TooDeep-read_answer-clause-came c = λ G len agenda w budget.
    let old = c.args.self.now in
    let es = c.args.signature.now in
    let e : Err c.in-Err-TooDeep-read_answer.field-0 ≡ Err TooDeep = cc in
    deep_shown es old _ c.args.list agenda (at_list es old c.args.list agenda c.requires.place w) c.is_canonical.ensures c.requires.first G len budget refl refl refl
    (none_first c.equations.result.now old.store.now.equations c.equations.ensures c.in-None.ensures.value) (c.in-Err-TooDeep-read_answer.ensures.too_deep e G len) refl
