-- The fault of a call is that of the function which passes it on.
use Rattle.std.proofs.Common.{◌≡◌, Result, Err, IsErrOf}

pub fault_of_call : {T U E : Type 0} (r : Result T E) (x y : E) → r ≡ Err x → IsErrOf r y → IsErrOf {T = U} (Err x) y
fault_of_call r x y e f = cc (e, f)
