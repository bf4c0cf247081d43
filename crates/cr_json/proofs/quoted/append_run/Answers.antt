-- SPDX-License-Identifier: Apache-2.0 OR MIT
use Rattle.std.proofs.Common.{◌≡◌, ◌∙◌, ◌++◌, get_or, arith, ap, sym, append_assoc}
use Rattle.std.specs.List.{slice_range}
use Rattle.json.specs.Print.{escape_byte}
use Rattle.cr_json.proofs.Plain.{length-range, escape_and}
use Rattle.cr_json.proofs.quoted.append_run.Goals as goal

pub returns-clause-puts : goal.returns-clause-puts
returns-clause-puts c =
    let text = c.args.text.now in
    let end = c.run_end-end.result in
    let run = slice_range text c.args.at end in
    let count = length-range text c.args.at end c.run_end-end.ensures.after c.run_end-end.ensures.within in
    let escape_is : c.as_slice.result.now ≡ escape_byte (get_or text end 0) =
    c.as_slice.ensures.value ∙ c.escaped.ensures in
    let both : c.append-2.new.into.items ≡ c.args.into.now.items ++ (run ++ escape_byte (get_or text end 0)) =
    c.in_ok-append-2.ensures.text ∙ ap (λ s. s ++ c.as_slice.result.now) c.in_ok-append.ensures.text
    ∙ append_assoc c.args.into.now.items run c.as_slice.result.now
    ∙ ap (λ s. c.args.into.now.items ++ (run ++ s)) escape_is in
    record {
      items = both ∙ ap (λ s. c.args.into.now.items ++ s)
          (sym (escape_and text c.args.at end c.run_end-end.ensures.after (omega arith) c.run_end-end.ensures.plain));
      within = omega (
        arith,
        count,
        c.as_slice.ensures.fits,
        c.in_ok-append.ensures.room.ok.within,
        c.in_ok-append-2.ensures.room.ok.within,
      );
      capacity = omega (arith, c.in_ok-append.ensures.room.ok.capacity, c.in_ok-append-2.ensures.room.ok.capacity);
    }
