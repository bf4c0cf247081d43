-- SPDX-License-Identifier: Apache-2.0 OR MIT
use Rattle.csv.specs.Records.{fields_of}
use Rattle.cr_bulk.proofs.ReadLaws.{finds}
use Rattle.cr_bulk.proofs.record.read_next.Goals as goal

pub returns : goal.returns
returns c =
    let read = c.in-Ok.ensures in
    finds c.in-Ok.found c.args.reader.now c.read_byte_record.new.self (fields_of c.read_byte_record.new.row) c.requires
    (read.reads c.requires.trim c.requires.ready) (read.ready c.requires.trim) read.flexible
