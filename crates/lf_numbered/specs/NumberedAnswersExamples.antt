-- Worked: what `instance_of` answers of cp b.x c.x, by unification at the places of a pattern.
use Rattle.lf_totality.specs.Examples.{Copying, cp_kind}
use Rattle.lf_coverage.specs.Calls.{apart, stuck}
use Rattle.lf_coverage.specs.ExamplesCopying.{copy_app_head, copy_entry_head, copy_worlds}
use Rattle.lf_numbered.specs.ExamplesNumbered.{two_copies}
use Rattle.lf_numbered.specs.MeetsAnswers.{ArePlacesAnswered, ArePlacesRefuted, IsMetByNumber}
use Rattle.lf_numbered.specs.NumberedCalls.{NumberedMatchedIs, NumberedMatchedNeeds}
use Rattle.lf_numbered.specs.NumberedCallsStores.{MeetsByNumber}

-- It has what `instance_of` needs for the head of cp-app. Steps refute b.x = app E1 E2 where b and c are different and where they are one, so it is apart.
abbrev pub TwoCopiesAreApart : Type 0
TwoCopiesAreApart = NumberedMatchedNeeds Copying 4 copy_worlds two_copies copy_app_head × ArePlacesRefuted Copying 4 two_copies copy_app_head cp_kind × NumberedMatchedIs Copying 4 copy_worlds two_copies copy_app_head apart

-- So it has for u : cp x x. Steps refute four of its five places, and where c is b, at the entry of b, the store is solved. So u meets it; and it is stuck,
-- since it is no instance of u and has no variable.
abbrev pub TwoCopiesAreStuck : Type 0
TwoCopiesAreStuck = NumberedMatchedNeeds Copying 4 copy_worlds two_copies copy_entry_head × ArePlacesAnswered Copying 4 two_copies copy_entry_head cp_kind × IsMetByNumber Copying 4 two_copies copy_entry_head cp_kind × MeetsByNumber Copying 4 copy_worlds two_copies copy_entry_head × NumberedMatchedIs Copying 4 copy_worlds two_copies copy_entry_head stuck
