-- SPDX-License-Identifier: Apache-2.0 OR MIT
mod DrillCalls
mod DrillCast
mod DrillConference
mod DrillCommands
mod DrillText
