-- SPDX-License-Identifier: Apache-2.0 OR MIT
pub mod Words
pub mod Numbers
pub mod Job
pub mod Usage
