-- SPDX-License-Identifier: Apache-2.0 OR MIT
pub mod CountLaws
pub mod LetterLaws
pub mod LoadLaws
pub mod OpenLaws
pub mod ToldLaws
pub mod WalkLaws
