use Rattle.std.proofs.Common.{◌-◌, option_map, refl, reverse}
use Rattle.std.proofs.lemmas.Result.{IfOk-weaker, on_err_weaker}
use Rattle.tw_search.specs.Chains.{frames_of}
use Rattle.tw_search.specs.Going.{Goes, GoesUp, step_of}
use Rattle.tw_search.specs.Standing.{choices_of}
use Rattle.tw_search.specs.declared.search.Search.{Search}
use Rattle.tw_search.proofs.Going.{goes_from_same}
use Rattle.tw_search.proofs.Leaving.{at_choices, end_came}
use Rattle.tw_search.proofs.Standing.{can_go_back, gave_same, nothing_stands, taken_up}
use Rattle.tw_search.proofs.search.Search.retry.Goals as goal

pub undo_to-requires : goal.undo_to-requires
undo_to-requires c =
    let old = c.args.self.now in
    let es = c.args.signature.now in
    let (agenda, w) = c.requires.at in
    can_go_back es old.variables old.store (frames_of old.frames) c.in-Some.choice (reverse c.pop_choice.new.choices.items) (choices_of old) agenda c.in-Some.ensures (at_choices es old agenda c.requires.place w)

pub take_up-requires-clause-up : goal.take_up-requires-clause-up
take_up-requires-clause-up c =
    let old = c.args.self.now in
    let es = c.args.signature.now in
    let (agenda, w) = c.requires.at in
    let back : Search = record { store = c.undo_to.new.self; frames = c.shrink_to.new.self; choices = c.pop_choice.new.choices; met = c.forget.new.met; place = old.place; variables = old.variables; goal = old.goal; tries = old.tries } in
    (agenda, taken_up es old.store (frames_of old.frames) c.in-Some.choice (reverse c.pop_choice.new.choices.items) (choices_of old) agenda back c.in-Some.ensures (at_choices es old agenda c.requires.place w) c.undo_to.ensures c.shrink_to.ensures refl (c.forget.ensures c.undo_to.new.self c.undo_to.ensures))

pub returns-in-None-clause-goes : goal.returns-in-None-clause-goes
returns-in-None-clause-goes c = λ agenda w G len.
    let old = c.args.self.now in
    let es = c.args.signature.now in
    end_came es G old _ agenda (c.args.last - old.tries) (nothing_stands es old.variables old.store (frames_of old.frames) (choices_of old) agenda c.in-None.ensures (at_choices es old agenda c.requires.place w)) refl refl refl refl

pub returns-in-Some-clause-goes : goal.returns-in-Some-clause-goes
returns-in-Some-clause-goes c =
    let old = c.args.self.now in
    let new = c.take_up.new.self in
    let es = c.args.signature.now in
    let back : Search = record { store = c.undo_to.new.self; frames = c.shrink_to.new.self; choices = c.pop_choice.new.choices; met = c.forget.new.met; place = old.place; variables = old.variables; goal = old.goal; tries = old.tries } in
    IfOk-weaker c.take_up.result (λ o. GoesUp es c.args.last back new c.in-Some.choice (option_map step_of o)) (λ o. Goes es c.args.last old new (option_map step_of o))
    (λ o up agenda w. goes_from_same es c.args.last old back new (option_map step_of o) agenda refl refl refl
    (up agenda (taken_up es old.store (frames_of old.frames) c.in-Some.choice (reverse c.pop_choice.new.choices.items) (choices_of old) agenda back c.in-Some.ensures (at_choices es old agenda c.requires.place w) c.undo_to.ensures c.shrink_to.ensures refl (c.forget.ensures c.undo_to.new.self c.undo_to.ensures))))
    c.take_up.ensures.goes

pub returns-in-Some-clause-gave_out : goal.returns-in-Some-clause-gave_out
returns-in-Some-clause-gave_out c =
    let old = c.args.self.now in
    let new = c.take_up.new.self in
    let es = c.args.signature.now in
    let back : Search = record { store = c.undo_to.new.self; frames = c.shrink_to.new.self; choices = c.pop_choice.new.choices; met = c.forget.new.met; place = old.place; variables = old.variables; goal = old.goal; tries = old.tries } in
    on_err_weaker c.take_up.result
    (λ up agenda w. gave_same es old back new new agenda c.args.last refl refl
    (up agenda (taken_up es old.store (frames_of old.frames) c.in-Some.choice (reverse c.pop_choice.new.choices.items) (choices_of old) agenda back c.in-Some.ensures (at_choices es old agenda c.requires.place w) c.undo_to.ensures c.shrink_to.ensures refl (c.forget.ensures c.undo_to.new.self c.undo_to.ensures))))
    c.take_up.ensures.gave_out

pub forget-requires : goal.forget-requires
forget-requires c = let (agenda, w) = c.requires.at in w.1
