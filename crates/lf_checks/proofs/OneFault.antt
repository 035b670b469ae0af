-- The first faults of modes, worlds and orders.
use Rattle.std.proofs.Common.{◌≡◌, ℕ, List}
use Rattle.std.specs.Prelude.{Bool, ◌↔◌}
use Rattle.lf.specs.Typing.{Signature}
use Rattle.lf.specs.Entries.{Entry, signature_of}
use Rattle.lf.specs.Variables.{everything}
use Rattle.lf.specs.Subordination.{Block}
use Rattle.lf_checks.specs.Clause.{Clause}
use Rattle.lf_checks.specs.Clauses.{ClauseName, NamedClause, group_clauses}
use Rattle.lf_checks.specs.Descent.{CallDescends, GroupDescends}
use Rattle.lf_checks.specs.ModeFaults.{Place, ModeFault, AllAreModed, FirstModeFault}
use Rattle.lf_checks.specs.ModeRows.{ModeRow, marks_of, is_moded}
use Rattle.lf_checks.specs.Modes.{WellModed}
use Rattle.lf_checks.specs.Order.{Order}
use Rattle.lf_checks.specs.OrderFaults.{GroupCallPasses, ClauseDescends, OrderFault, AllDescend, GroupOrderFault}
use Rattle.lf_checks.specs.WorldFaults.{WorldRow, SubgoalIsWorlded, ClauseIsWorlded, WorldFault, GroupIsWorlded, GroupWorldFault}
use Rattle.lf_checks.proofs.FirstFaults.{excludes, one_fault, subgoal_refutes, one_subgoal}
use Rattle.lf_checks.proofs.Joined.{group_passes}
use Rattle.lf_checks.proofs.ModeRefuted.{mode_refuted, one_place}

pub first_mode_fault : (Σ : Signature) (rows : List ModeRow) (clauses : List NamedClause) (name : ClauseName) (at : Place) → FirstModeFault Σ rows clauses name at → (AllAreModed Σ rows clauses → ⊥) × ((name' : ClauseName) (at' : Place) → FirstModeFault Σ rows clauses name' at' → (name ≡ name') × (at ≡ at'))
first_mode_fault Σ rows clauses name at f = (excludes (WellModed Σ (marks_of rows) (is_moded rows)) (ModeFault Σ (marks_of rows) (is_moded rows)) apart clauses name at f, (λ name' at' g. one_fault (WellModed Σ (marks_of rows) (is_moded rows)) (ModeFault Σ (marks_of rows) (is_moded rows)) apart one clauses name name' at at' f g))
  where
    apart : (c : Clause) (at : Place) → ModeFault Σ (marks_of rows) (is_moded rows) c at → WellModed Σ (marks_of rows) (is_moded rows) c → ⊥
    apart c at h w = mode_refuted Σ (marks_of rows) (is_moded rows) everything c at h w

    one : (c : Clause) (at at' : Place) → ModeFault Σ (marks_of rows) (is_moded rows) c at → ModeFault Σ (marks_of rows) (is_moded rows) c at' → at ≡ at'
    one c at at' h k = one_place Σ (marks_of rows) (is_moded rows) everything c at at' h k

pub first_world_fault : (entries : List Entry) (rows : List WorldRow) (group : List ℕ) (below : ℕ → ℕ → Bool) (W : List Block) (name : ClauseName) (k : ℕ) → GroupWorldFault entries rows group below W name k → (GroupIsWorlded entries rows group below W → ⊥) × ((name' : ClauseName) (k' : ℕ) → GroupWorldFault entries rows group below W name' k' → (name ≡ name') × (k ≡ k'))
first_world_fault entries rows group below W name k f = (excludes (ClauseIsWorlded (signature_of entries) rows group below W) (WorldFault (signature_of entries) rows group below W) apart (group_clauses entries W group) name k f, (λ name' k' g. one_fault (ClauseIsWorlded (signature_of entries) rows group below W) (WorldFault (signature_of entries) rows group below W) apart one (group_clauses entries W group) name name' k k' f g))
  where
    apart : (c : Clause) (k : ℕ) → WorldFault (signature_of entries) rows group below W c k → ClauseIsWorlded (signature_of entries) rows group below W c → ⊥
    apart c k h w = subgoal_refutes (SubgoalIsWorlded (signature_of entries) rows group below W c) c k h w

    one : (c : Clause) (k k' : ℕ) → WorldFault (signature_of entries) rows group below W c k → WorldFault (signature_of entries) rows group below W c k' → k ≡ k'
    one c k k' h g = one_subgoal (SubgoalIsWorlded (signature_of entries) rows group below W c) c k k' h g

module _ (entries : List Entry) (W : List Block) (order : ℕ → Order) (group : List ℕ) where
  pub descending_group : AllDescend (CallDescends (signature_of entries) W order group) group (group_clauses entries W group) ↔ GroupDescends (signature_of entries) W order group
  descending_group = ((λ h. (group_passes (ClauseDescends (CallDescends (signature_of entries) W order group) group) entries W group).0 h), (λ h. (group_passes (ClauseDescends (CallDescends (signature_of entries) W order group) group) entries W group).1 h))

  pub first_order_fault : (name : ClauseName) (k : ℕ) → GroupOrderFault entries W order group name k → (GroupDescends (signature_of entries) W order group → ⊥) × ((name' : ClauseName) (k' : ℕ) → GroupOrderFault entries W order group name' k' → (name ≡ name') × (k ≡ k'))
  first_order_fault name k f = ((λ d. excludes (ClauseDescends (CallDescends (signature_of entries) W order group) group) (OrderFault (CallDescends (signature_of entries) W order group) group) apart (group_clauses entries W group) name k f (descending_group.1 d)), (λ name' k' g. one_fault (ClauseDescends (CallDescends (signature_of entries) W order group) group) (OrderFault (CallDescends (signature_of entries) W order group) group) apart one (group_clauses entries W group) name name' k k' f g))
    where
      apart : (c : Clause) (k : ℕ) → OrderFault (CallDescends (signature_of entries) W order group) group c k → ClauseDescends (CallDescends (signature_of entries) W order group) group c → ⊥
      apart c k h w = subgoal_refutes (GroupCallPasses (CallDescends (signature_of entries) W order group) group c) c k h w

      one : (c : Clause) (k k' : ℕ) → OrderFault (CallDescends (signature_of entries) W order group) group c k → OrderFault (CallDescends (signature_of entries) W order group) group c k' → k ≡ k'
      one c k k' h g = one_subgoal (GroupCallPasses (CallDescends (signature_of entries) W order group) group c) c k k' h g
