-- SPDX-License-Identifier: Apache-2.0 OR MIT
pub mod ForLaws
pub mod BinarySearchLaws
pub mod PaperTags
