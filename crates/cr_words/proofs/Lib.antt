-- SPDX-License-Identifier: Apache-2.0 OR MIT
pub mod Simple
pub mod Filled
pub mod Numbers
pub mod Named
mod PipeLaw
mod StoreLaws
mod Values
mod ServeBy
mod ServeLaws
mod DrillLaws
