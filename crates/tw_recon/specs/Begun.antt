-- What the values of the program stand for between two steps.
use Rattle.std.specs.Prelude.{ℕ, List, [], length}
use Rattle.lf.specs.Entries.{Body, Entry, signature_of}
use Rattle.lf_elaboration.specs.Principal.{WrittenBody}
use Rattle.lf_elaboration.specs.Sites.{AreFreesInOrder, AreSites}
use Rattle.lf_elaboration.specs.State.{State, store_of}
use Rattle.lf_unification.specs.Solving.{Left, Solved}
use Rattle.tw_approx.specs.Answer.{Rows, rows_of}
use Rattle.tw_elaborate.specs.Bodies.{IsElaborated, open_body_of}
use Rattle.tw_elaborate.specs.View.{numbers_of}
use Rattle.tw_metas.specs.State as metas
use Rattle.tw_resolve.specs.Resolved.{skeletons_of}
use Rattle.tw_putting.specs.Ready.{IsReady}
use Rattle.tw_putting.specs.Whole.{whole}
use Rattle.tw_written.specs.View.{written_body_of}
use Rattle.tw_recon.specs.Reconstruction.{IsMade}
use Rattle.tw_recon.specs.declared.begun.Begun.{Begun}
use Rattle.tw_recon.specs.declared.solving.Solution.{Solution}

-- what is written is elaborated
abbrev pub IsBegun : List Entry → Begun → Type 0
IsBegun es b = IsElaborated es (skeletons_of (rows_of b.rows.items)) (written_body_of b.written) b.elaborated

-- Its equations are solved: this store is left, of the metavariables `frees` of the free variables, with this open body.
pub record IsSolved (es : List Entry) (rows : Rows) (w : WrittenBody) (frees : List ℕ) (b : Body) (after : metas.State) : Type 0 where
  pub state : State
  pub made : IsMade es (skeletons_of rows) w frees state b
  pub solved : Solved (signature_of es) (store_of state) (whole [] after)
  pub ready : IsReady (signature_of es) [] after

-- Some are left over.
pub record IsLeft (es : List Entry) (rows : Rows) (w : WrittenBody) (frees : List ℕ) (after : metas.State) : Type 0 where
  pub state : State
  pub body : Body
  pub made : IsMade es (skeletons_of rows) w frees state body
  pub left : Left (signature_of es) (store_of state) (whole [] after)
  pub ready : IsReady (signature_of es) [] after

-- the solution of what is written, with where things stand in the text
pub record IsSolution (es : List Entry) (s : Solution) : Type 0 where
  pub solved : IsSolved es (rows_of s.rows.items) (written_body_of s.written) (numbers_of s.frees.items) (open_body_of s.body) s.store.now
  pub sites : AreSites es (skeletons_of (rows_of s.rows.items)) (written_body_of s.written) (numbers_of s.sites.items)
  pub in_order : AreFreesInOrder (written_body_of s.written) (length (rows_of s.rows.items)) s.order.items
