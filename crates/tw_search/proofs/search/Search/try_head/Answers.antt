use Rattle.std.proofs.Common.{◌<◌, ◌-◌, ℕ, List, map, reverse, refl, subst, arith}
use Rattle.lf.specs.Entries.{signature_of}
use Rattle.lf_unification.specs.Lists.{followed}
use Rattle.tw_terms.specs.View.{head_of}
use Rattle.tw_terms.specs.declared.canonical.MetaId.{MetaId}
use Rattle.tw_search.specs.Chains.{GoalsAre, frames_of}
use Rattle.tw_search.specs.Going.{GivesOutTrying}
use Rattle.tw_search.specs.Tries.{IsTried, TriesDeep}
use Rattle.tw_search.proofs.Going.{child_tried, gave_child, gave_none, none_tried}
use Rattle.tw_search.proofs.Leaving.{try_deep_came}
use Rattle.tw_search.proofs.Standing.{gave_at_once, no_growth, on_err_all}
use Rattle.tw_search.proofs.search.Search.try_head.Goals as goal

pub returns-in-Ok-None-clause-tried : goal.returns-in-Ok-None-clause-tried
returns-in-Ok-None-clause-tried c = λ agenda w.
    let old = c.args.self.now in
    let es = c.args.signature.now in
    none_tried es c.is_canonical.ensures old _ c.args.choice (head_of c.args.head) agenda w c.in-Ok-None.ensures.story c.in_ok-push_choice-in-Ok-None.ensures refl refl refl c.in-Ok-None.ensures.known
    (subst (λ t. IsTried (signature_of es) old.store.now c.args.choice.goal (head_of c.args.head) t c.attempt.new.store.now) c.in-Ok-None.field-0-is c.in-Ok-None.ensures.tried) (no_growth (frames_of old.frames)) c.requires.place

pub returns-in-Ok-Some-clause-tried : goal.returns-in-Ok-Some-clause-tried
returns-in-Ok-Some-clause-tried c = λ agenda w.
    let old = c.args.self.now in
    let es = c.args.signature.now in
    let list = c.in_ok-list-in-Ok-Some.list in
    child_tried es c.is_canonical.ensures old _ c.args.choice (head_of c.args.head) agenda w c.in-Ok-Some.ensures.story c.in_ok-push_choice-in-Ok-Some.ensures refl refl refl c.in-Ok-Some.ensures.known c.in-Ok-Some.subgoals.items
    (subst (λ t. IsTried (signature_of es) old.store.now c.args.choice.goal (head_of c.args.head) t c.attempt.new.store.now) c.in-Ok-Some.field-0-is c.in-Ok-Some.ensures.tried) c.in_ok-list-in-Ok-Some.ensures.grown list
    (subst (λ (ms : List MetaId). (gs : List ℕ) → GoalsAre (frames_of old.frames) c.args.choice.rest gs → GoalsAre (frames_of c.push_all.new.self) list (followed (reverse (map (λ (m : MetaId). m.0) ms)) gs)) c.deref.ensures.value c.in_ok-list-in-Ok-Some.ensures.list) refl

pub returns-in-Err-TooDeep-clause-tried : goal.returns-in-Err-TooDeep-clause-tried
returns-in-Err-TooDeep-clause-tried c = λ agenda w G len.
    let old = c.args.self.now in
    let es = c.args.signature.now in
    let within = c.requires.within in
    let left : 0 < c.args.last - old.tries = omega (arith, within) in
    try_deep_came es G old _ c.args.choice (head_of c.args.head) agenda (c.args.last - old.tries) w
    (subst (λ f. TriesDeep f (signature_of es) old.store.now c.args.choice.goal (head_of c.args.head)) c.in-Err-TooDeep.field-0-is c.in-Err-TooDeep.ensures.tried) left refl refl refl refl

pub returns-in_err-push_choice-in-Ok-None-clause-gave_out : goal.returns-in_err-push_choice-in-Ok-None-clause-gave_out
returns-in_err-push_choice-in-Ok-None-clause-gave_out c =
    on_err_all {P = GivesOutTrying c.args.signature.now c.args.last c.args.self.now _ c.args.choice (head_of c.args.head)} _ (λ agenda w.
    (let old = c.args.self.now in
    let es = c.args.signature.now in
    gave_none es c.is_canonical.ensures old _ c.args.choice (head_of c.args.head) agenda w c.attempt.new.store c.in-Ok-None.ensures.story refl c.args.last c.requires.within
    (subst (λ t. IsTried (signature_of es) old.store.now c.args.choice.goal (head_of c.args.head) t c.attempt.new.store.now) c.in-Ok-None.field-0-is c.in-Ok-None.ensures.tried)))

pub returns-in_err-list-in-Ok-Some-clause-gave_out : goal.returns-in_err-list-in-Ok-Some-clause-gave_out
returns-in_err-list-in-Ok-Some-clause-gave_out c =
    on_err_all {P = GivesOutTrying c.args.signature.now c.args.last c.args.self.now _ c.args.choice (head_of c.args.head)} _ (λ agenda w.
    (let old = c.args.self.now in
    let es = c.args.signature.now in
    gave_child es c.is_canonical.ensures old _ c.args.choice (head_of c.args.head) agenda w c.attempt.new.store c.in-Ok-Some.ensures.story refl c.args.last c.requires.within c.in-Ok-Some.subgoals.items
    (subst (λ t. IsTried (signature_of es) old.store.now c.args.choice.goal (head_of c.args.head) t c.attempt.new.store.now) c.in-Ok-Some.field-0-is c.in-Ok-Some.ensures.tried)))

pub returns-in_err-push_choice-in-Ok-Some-clause-gave_out : goal.returns-in_err-push_choice-in-Ok-Some-clause-gave_out
returns-in_err-push_choice-in-Ok-Some-clause-gave_out c =
    on_err_all {P = GivesOutTrying c.args.signature.now c.args.last c.args.self.now _ c.args.choice (head_of c.args.head)} _ (λ agenda w.
    (let old = c.args.self.now in
    let es = c.args.signature.now in
    gave_child es c.is_canonical.ensures old _ c.args.choice (head_of c.args.head) agenda w c.attempt.new.store c.in-Ok-Some.ensures.story refl c.args.last c.requires.within c.in-Ok-Some.subgoals.items
    (subst (λ t. IsTried (signature_of es) old.store.now c.args.choice.goal (head_of c.args.head) t c.attempt.new.store.now) c.in-Ok-Some.field-0-is c.in-Ok-Some.ensures.tried)))

pub returns-clause-gave_out : goal.returns-clause-gave_out
returns-clause-gave_out c = λ agenda w.
    let within = c.requires.within in
    gave_at_once c.args.signature.now c.args.self.now _ agenda c.args.last refl (omega (arith, within))
