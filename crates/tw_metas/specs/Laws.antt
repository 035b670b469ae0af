-- What a mark is good for.
use Rattle.std.specs.Prelude.{◌≡◌, List, ◌++◌, length, drop, ◌-◌}
use Rattle.tw_metas.specs.State.{State, Story, states}

-- Where nothing but new changes came since, a store taken back to a mark is as at the mark.
abbrev pub MarkIsKept : Type 0
MarkIsKept = (first now : Story) (news : List State) → states now ≡ news ++ states first → drop (length now.before - length first.before) (states now) ≡ states first
