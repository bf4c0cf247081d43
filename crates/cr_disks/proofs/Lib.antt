-- SPDX-License-Identifier: Apache-2.0 OR MIT
mod Record
mod Images
mod Time
mod Putting
mod Paths
