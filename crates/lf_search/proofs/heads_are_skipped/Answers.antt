use Rattle.lf_search.proofs.Ends.{heads_are_reached, heads_are_skipped}
use Rattle.lf_search.proofs.heads_are_skipped.Goals as goal

pub returns : goal.returns
returns c = λ sg cs node g gs D a T rest hs. (heads_are_skipped sg cs node g gs D a T rest hs, heads_are_reached sg cs node g gs D a T rest hs)
