use Rattle.lf_numbered.proofs.MeetsAnswersSearch.{places_refute_each}
use Rattle.lf_numbered.proofs.NumberedAnswers.{beside_has_typed_block, clause_heads_have_typed_blocks, needed_blocks_are_typed, needed_fits, needed_met_is_meeting, needed_places_are_ready, refuted_by_number_is_apart}
use Rattle.lf_numbered.proofs.needed_meetings_are_answered.Goals as goal

pub returns-clause-heads : goal.returns-clause-heads
returns-clause-heads c = clause_heads_have_typed_blocks

pub returns-clause-beside : goal.returns-clause-beside
returns-clause-beside c = beside_has_typed_block

pub returns-clause-blocks : goal.returns-clause-blocks
returns-clause-blocks c = needed_blocks_are_typed

pub returns-clause-places : goal.returns-clause-places
returns-clause-places c = places_refute_each

pub returns-clause-fits : goal.returns-clause-fits
returns-clause-fits c = needed_fits

pub returns-clause-ready : goal.returns-clause-ready
returns-clause-ready c = needed_places_are_ready

pub returns-clause-apart : goal.returns-clause-apart
returns-clause-apart c = refuted_by_number_is_apart

pub returns-clause-met : goal.returns-clause-met
returns-clause-met c = needed_met_is_meeting
