-- SPDX-License-Identifier: Apache-2.0 OR MIT
pub use Rattle.cr_words.specs.Words.{confd_words}
pub mod Words
pub mod Exits
pub mod Replayed
pub mod Runs
pub mod Stores
pub mod Serves
pub mod Jobs
pub mod Program
