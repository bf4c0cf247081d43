-- SPDX-License-Identifier: Apache-2.0 OR MIT
pub mod Choices
pub mod Problems
pub mod Solutions
pub mod Walks
pub mod Due
pub mod Answered
