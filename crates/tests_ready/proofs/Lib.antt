mod TypedHeads
mod TypedTerms
mod NewStores
