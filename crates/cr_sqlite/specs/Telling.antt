-- SPDX-License-Identifier: Apache-2.0 OR MIT
-- What an error of the crate `sqlite` is to a store, and what a keeper answers where it gave up.
use Rattle.sqlite.specs.declared.error.Error.{Error}
use Rattle.sqlite.specs.declared.error.Error.TheVariants as database
use Rattle.sqlite.specs.declared.error.ErrorCode.TheVariants as codes
use Rattle.cr_ports.specs.declared.keeper.KeeperError.{KeeperError}
use Rattle.cr_ports.specs.declared.keeper.KeeperError.TheVariants as errors
use Rattle.cr_sqlite.specs.declared.reason.Reason.TheVariants.{Database}
use Rattle.cr_sqlite.specs.declared.reason.StoreError.{StoreError}
use Rattle.cr_sqlite.specs.declared.reason.StoreError.TheVariants.{Failed, OutOfMemory}

-- an error of the crate `sqlite`: want of memory is that, and any other a fault, with the error as its reason
abbrev pub store_error : Error → StoreError
store_error (database.SqliteFailure codes.OutOfMemory) = OutOfMemory
store_error error = Failed (Database error)

-- what a keeper answers where it gave up for this
abbrev pub without_reason : StoreError → KeeperError
without_reason (Failed reason) = errors.Failed
without_reason OutOfMemory = errors.OutOfMemory
