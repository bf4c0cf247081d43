-- SPDX-License-Identifier: Apache-2.0 OR MIT
pub mod Told
pub mod Answering
pub mod TwoRuns
pub mod Replay
pub mod Tries
pub mod Passing
pub mod Wishes
pub mod Turning
pub mod Retries
pub mod Reading
pub mod Serving
pub mod Stopping
