-- SPDX-License-Identifier: Apache-2.0 OR MIT
-- What the result of a read or a write of a socket is told as.
use Rattle.std.specs.Prelude.{ℕ, zero, suc, Result, Ok, Err}
use Rattle.cr_ports.specs.declared.source.ReadStep.{ReadStep}
use Rattle.cr_ports.specs.declared.source.ReadStep.TheVariants as reads
use Rattle.cr_ports.specs.declared.sink.WriteStep.{WriteStep}
use Rattle.cr_ports.specs.declared.sink.WriteStep.TheVariants as writes

-- a read: so many bytes, 0 of which are the end; or an error, whichever it is, which is a fault
abbrev pub read_step : {E : Type 0} → Result ℕ E → ReadStep
read_step (Ok zero) = reads.End
read_step (Ok (suc n)) = reads.Got (suc n)
read_step (Err error) = reads.Failed

-- a write of a piece of this length: so many bytes of it; a fault, where none was taken of a piece that has some; or
-- an error, whichever it is, which is a fault
abbrev pub write_step : {E : Type 0} → Result ℕ E → ℕ → WriteStep
write_step (Ok (suc n)) len = writes.Took (suc n)
write_step (Ok zero) zero = writes.Took 0
write_step (Ok zero) (suc len) = writes.Failed
write_step (Err error) len = writes.Failed
