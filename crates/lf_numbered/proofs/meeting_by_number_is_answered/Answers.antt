use Rattle.lf_numbered.proofs.MeetsAnswersAnswer.{met_is_meeting, meeting_by_number_is_answered}
use Rattle.lf_numbered.proofs.MeetsAnswersSearch.{places_are_searched}
use Rattle.lf_numbered.proofs.meeting_by_number_is_answered.Goals as goal

pub returns-clause-meets : goal.returns-clause-meets
returns-clause-meets c = met_is_meeting

pub returns-clause-answered : goal.returns-clause-answered
returns-clause-answered c = meeting_by_number_is_answered

pub returns-clause-searched : goal.returns-clause-searched
returns-clause-searched c = places_are_searched
