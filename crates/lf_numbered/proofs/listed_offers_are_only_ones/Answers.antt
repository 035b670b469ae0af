use Rattle.lf_numbered.proofs.OnlyListed.{listed_offers_are_one}
use Rattle.lf_numbered.proofs.OnlyOrder.{offer_has_one_place, place_is_of_one_offer, places_are_of_one_block}
use Rattle.lf_numbered.proofs.listed_offers_are_only_ones.Goals as goal

pub returns-clause-offer : goal.returns-clause-offer
returns-clause-offer c = place_is_of_one_offer

pub returns-clause-places : goal.returns-clause-places
returns-clause-places c = places_are_of_one_block

pub returns-clause-place : goal.returns-clause-place
returns-clause-place c = offer_has_one_place

pub returns-clause-listed : goal.returns-clause-listed
returns-clause-listed c = listed_offers_are_one
