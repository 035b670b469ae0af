-- What a check asks of clauses and subgoals.
use Rattle.std.specs.Prelude.{ℕ, List, map, Bool, Option, Some, None, Result}
use Rattle.lf.specs.Entries.{signature_of}
use Rattle.lf.specs.Subordination.{AreTypedBlocks}
use Rattle.lf.specs.Syntax.{LfType}
use Rattle.lf_checks.specs.Clause.{Clause}
use Rattle.lf_checks.specs.Clauses.{NamedClause}
use Rattle.lf_checks.specs.WorldFaults.{ClauseIsWorlded, WorldFault as PlainFault}
use Rattle.tw_clause.specs.Tables.{world_rows_of}
use Rattle.tw_clause.specs.View.{worlds_of}
use Rattle.tw_world.specs.Outcomes.{ListOutcome, SubgoalGoesDeep}
use Rattle.tw_world.specs.Serving.{IsOpenIn, PassesIn, below_in}
use Rattle.tw_world.specs.declared.check.Check.{Check}
use Rattle.tw_world.specs.declared.fault.WorldFault.{WorldFault}

-- the blocks of its worlds are typed
abbrev pub HasTypedBlocks : Check → Type 0
HasTypedBlocks x = AreTypedBlocks (signature_of x.sig.now) (worlds_of x.worlds.now)

-- a clause of this type in this context, where F has its fixed heads
abbrev pub clause_of : List LfType → (ℕ → Bool) → LfType → Clause
clause_of C F A = record { outer = C; fixed = F; type = A }

-- a subgoal of a clause with this scope passes
abbrev pub PassesUnder : Check → List LfType → LfType → Type 0
PassesUnder x C A = PassesIn (signature_of x.sig.now) (world_rows_of x.rows.now) (map (λ f. f.0) x.group.now) (below_in x.subord.now) (worlds_of x.worlds.now) C A

-- it is left open
abbrev pub IsOpenUnder : Check → List LfType → LfType → Type 0
IsOpenUnder x C A = IsOpenIn (signature_of x.sig.now) (world_rows_of x.rows.now) (map (λ f. f.0) x.group.now) (below_in x.subord.now) (worlds_of x.worlds.now) C A

abbrev pub ClausePasses : Check → Clause → Type 0
ClausePasses x c = ClauseIsWorlded (signature_of x.sig.now) (world_rows_of x.rows.now) (map (λ f. f.0) x.group.now) (below_in x.subord.now) (worlds_of x.worlds.now) c

abbrev pub ClauseFails : Check → Clause → ℕ → Type 0
ClauseFails x c k = PlainFault (signature_of x.sig.now) (world_rows_of x.rows.now) (map (λ f. f.0) x.group.now) (below_in x.subord.now) (worlds_of x.worlds.now) c k

abbrev pub ClauseGoesDeep : Check → Clause → ℕ → Type 0
ClauseGoesDeep x c k = SubgoalGoesDeep (signature_of x.sig.now) (world_rows_of x.rows.now) (map (λ f. f.0) x.group.now) (below_in x.subord.now) (worlds_of x.worlds.now) c k

-- each subgoal passes, or this one is the first that doesn't
abbrev pub ClauseOutcome : Check → Clause → Option ℕ → Type 0
ClauseOutcome x c None = ClausePasses x c
ClauseOutcome x c (Some k) = ClauseFails x c k

-- of listed clauses
abbrev pub Checked : Check → List NamedClause → Result (Unit {0}) WorldFault → Type 0
Checked x cs r = ListOutcome (signature_of x.sig.now) (world_rows_of x.rows.now) (map (λ f. f.0) x.group.now) (below_in x.subord.now) (worlds_of x.worlds.now) cs r
