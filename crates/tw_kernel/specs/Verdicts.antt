-- The answers of the kernel.
use Rattle.std.specs.Prelude.{Result, Ok, Err, alloc_error}
use Rattle.std.specs.declared.alloc.AllocError.{AllocError}
use Rattle.tw_kernel.specs.declared.calls.Verdict.{Verdict}
use Rattle.tw_kernel.specs.declared.calls.Verdict.TheVariants as verdict
use Rattle.tw_kernel.specs.declared.fault.Fault.{Fault}
use Rattle.tw_kernel.specs.declared.fault.Fault.TheVariants.{IllTyped, TooDeep, NoMemory}

-- the answer to an outcome
abbrev pub verdict_of : Result (Unit {0}) Fault → Result Verdict AllocError
verdict_of (Ok _) = Ok verdict.Typed
verdict_of (Err IllTyped) = Ok verdict.IllTyped
verdict_of (Err TooDeep) = Ok verdict.TooDeep
verdict_of (Err NoMemory) = Err alloc_error
