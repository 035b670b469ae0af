-- Why a declaration isn't reconstructed.
use Rattle.std.specs.Prelude.{◌≡◌, ◌<◌, ℕ, List, [], Option, Some, length, map, slice_get, ◌⊎◌}
use Rattle.lf.specs.DeepTyping.{KindReachesDeep, TypeReachesDeep, TypingReachesDeep}
use Rattle.lf.specs.Depth.{depth, depth_limit, kind_depth, type_depth}
use Rattle.lf.specs.Entries.{Body, Entry, declare_constant, declare_definition, declare_family, signature_of}
use Rattle.lf.specs.Syntax.{LfType}
use Rattle.lf.specs.Typing.{Signature}
use Rattle.lf_elaboration.specs.Principal.{Completion, IsCompletion, WrittenBody, body_over}
use Rattle.lf_elaboration.specs.Sites.{AreFreesInOrder, AreSites}
use Rattle.lf_elaboration.specs.State.{State, store_of}
use Rattle.lf_unification.specs.DeepEquations.{AreDeep}
use Rattle.lf_unification.specs.Solving.{Left, Solved}
use Rattle.lf_unification.specs.Unifiers.{Equation}
use Rattle.tw_approx.specs.Answer as skeletons
use Rattle.tw_approx.specs.Answer.{Rows}
use Rattle.tw_approx.specs.declared.fault.ApproxFault.TheVariants as approx
use Rattle.tw_elaborate.specs.Bodies.{FromNothingDeep}
use Rattle.tw_metas.specs.State as metas
use Rattle.tw_metas.specs.View.{equation_of}
use Rattle.tw_parse.specs.Syntax.{Declaration}
use Rattle.tw_abstract.specs.Causes.{BlamesQuantifiers}
use Rattle.tw_hered.specs.declared.fault.HeredFault.{HeredFault}
use Rattle.tw_hered.specs.declared.fault.HeredFault.TheVariants as reading
use Rattle.tw_resolve.specs.Resolved.{skeletons_of}
use Rattle.tw_metas.specs.Named.{shown_type_of}
use Rattle.tw_unify.specs.Showing.{BlamesShown, Shows}
use Rattle.tw_putting.specs.Whole.{IsConsistent, whole}
use Rattle.tw_unify.specs.declared.fault.UnifyFault.TheVariants as unify
use Rattle.tw_metas.specs.declared.left.LeftEquation.{LeftEquation}
use Rattle.tw_recon.specs.Completed.{IsMismatch}
use Rattle.tw_recon.specs.Names.{AreNames, FreeIsDeep, Naming, named_from}
use Rattle.tw_recon.specs.Reading.{BodyIsDeep}
use Rattle.tw_recon.specs.Reconstruction.{IsCompletedTo, IsMade, IsWrittenAs}
use Rattle.tw_recon.specs.declared.fault.ReconFault.{ReconFault}
use Rattle.tw_recon.specs.declared.fault.ReconFault.TheVariants.{Leftover, Loose, Mismatch, NoMemory, TooDeep, TypeLevel, Unknown}

-- a body that is deeper than 4,096, or whose typing reaches what is deeper
abbrev pub BodyReachesDeep : Signature → Body → Type 0
BodyReachesDeep Σ (declare_family K) = (depth_limit < kind_depth K) ⊎ KindReachesDeep depth_limit Σ [] K
BodyReachesDeep Σ (declare_constant A) = (depth_limit < type_depth A) ⊎ TypeReachesDeep depth_limit Σ [] A
BodyReachesDeep Σ (declare_definition M A b) = ((depth_limit < type_depth A) ⊎ TypeReachesDeep depth_limit Σ [] A) ⊎ ((depth_limit < depth M) ⊎ TypingReachesDeep depth_limit Σ [] M A)

-- What is written, with the rows of its free variables.
module _ (es : List Entry) (rows : Rows) (w : WrittenBody) where
  -- Under most general bindings equations are left, each outside the pattern fragment, and this one is the first of them. In it metavariables have the names of free variables.
  pub record LeavesEquation (left : LeftEquation) : Type 0 where
    pub frees : List ℕ
    pub state : State
    pub body : Body
    pub made : IsMade es (skeletons_of rows) w frees state body
    pub after : metas.State
    pub outcome : Left (signature_of es) (store_of state) (whole [] after)
    pub consistent : IsConsistent after
    pub order : List ℕ
    pub in_order : AreFreesInOrder w (length rows) order
    pub naming : Naming
    pub are_names : AreNames after frees rows order naming
    pub first : Equation
    pub is_first : slice_get after.equations 0 ≡ Some first
    pub shows : Shows after first (named_from 0 naming.names) (map shown_type_of left.metas.items) left.names.items (equation_of left.equation)

  -- Where something deeper than 4,096 is reached: in elaboration, in its equations, in the value of a free variable, in the equation that is left, in what is read off, or in what is completed.
  pub data ReachesDeep : Type 0 where
    in_elaboration : FromNothingDeep es (skeletons_of rows) w → ReachesDeep
    in_equations : {frees : List ℕ} {s : State} {b : Body} → IsMade es (skeletons_of rows) w frees s b → AreDeep depth_limit (signature_of es) (store_of s) → ReachesDeep
    in_frees : {frees : List ℕ} {s : State} {b : Body} (after : metas.State) → IsConsistent after →
        IsMade es (skeletons_of rows) w frees s b → Solved (signature_of es) (store_of s) (whole [] after) ⊎ Left (signature_of es) (store_of s) (whole [] after) → FreeIsDeep after frees → ReachesDeep
    in_left : {frees order : List ℕ} {s : State} {b : Body} (after : metas.State) (e : Equation) (naming : Naming) → IsConsistent after →
        IsMade es (skeletons_of rows) w frees s b → Left (signature_of es) (store_of s) (whole [] after) → AreFreesInOrder w (length rows) order → AreNames after frees rows order naming → slice_get after.equations 0 ≡ Some e →
        BlamesShown unify.TooDeep after e (named_from 0 naming.names) → ReachesDeep
    in_quantifiers : {frees : List ℕ} {s : State} {b : Body} (sites : List ℕ) (after : metas.State) → IsConsistent after →
        IsMade es (skeletons_of rows) w frees s b → Solved (signature_of es) (store_of s) (whole [] after) → AreSites es (skeletons_of rows) w sites → BlamesQuantifiers reading.TooDeep after sites → ReachesDeep
    in_body : {frees : List ℕ} {s : State} {b : Body} (after : metas.State) →
        IsMade es (skeletons_of rows) w frees s b → Solved (signature_of es) (store_of s) (whole [] after) → BodyIsDeep after b → ReachesDeep
    in_entry : {G : List LfType} {hints : List (Option (List ℕ))} {shown : List ℕ} {b : Body} → IsCompletedTo es rows w G hints shown b → BodyReachesDeep (signature_of es) (body_over G b) → ReachesDeep

  -- why it isn't completed
  abbrev pub Stops : ReconFault → Type 0
  Stops (Unknown name place) = ⊥
  Stops (TypeLevel place) = ⊥
  Stops Loose = ⊥
  Stops Mismatch = (c : Completion) → IsCompletion es (skeletons_of rows) w c → ⊥
  Stops (Leftover left) = LeavesEquation left
  Stops TooDeep = ReachesDeep
  Stops NoMemory = Unit {0}

-- the declaration stops where it is written so
abbrev pub DeclarationStops : List Entry → Declaration → ReconFault → Type 0
DeclarationStops es d f = (rows : Rows) × (w : WrittenBody) × IsWrittenAs es d rows w × Stops es rows w f

-- Why a declaration isn't reconstructed.
abbrev pub HasCause : List Entry → Declaration → ReconFault → Type 0
HasCause es d (Unknown name place) = skeletons.HasCause es d (approx.Unknown name place)
HasCause es d (TypeLevel place) = skeletons.HasCause es d (approx.TypeLevel place)
HasCause es d Loose = skeletons.HasCause es d approx.Loose
HasCause es d Mismatch = IsMismatch es d
HasCause es d (Leftover left) = DeclarationStops es d (Leftover left)
HasCause es d TooDeep = skeletons.HasCause es d approx.TooDeep ⊎ DeclarationStops es d TooDeep
HasCause es d NoMemory = Unit {0}

-- a fault of reading off
abbrev pub of_reading : HeredFault → ReconFault
of_reading reading.TooDeep = TooDeep
of_reading reading.NoMemory = NoMemory
