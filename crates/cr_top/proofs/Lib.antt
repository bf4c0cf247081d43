-- SPDX-License-Identifier: Apache-2.0 OR MIT
mod Serving
mod Answering
mod Stored
mod Entries
mod Doors
mod Judged
mod Lost
mod Unmarked
mod Gated
mod Named
