use Rattle.std.proofs.Common.{◌≡◌, ◌<◌, ◌≤◌, ◌+◌, length, arith, sym, ◌∙◌, ap}
use Rattle.blob_codec.specs.Attribute.{padded, length_in, name_length_in, value_place, named_in, is_terminated}
use Rattle.blob_codec.specs.Found.{IsHead}
use Rattle.blob_codec.proofs.TestLemmas.{no_room, no_end}
use Rattle.blob_codec.proofs.FieldLemmas.{padded_least, padded_most, length_in_most, value_place_least, value_place_eight, value_place_from, named_from, name_from, value_from, behind_from}
use Rattle.blob_codec.proofs.attribute.split_attribute.Goals as goal

pub returns-in_default-clause-refused : goal.returns-in_default-clause-refused
returns-in_default-clause-refused c =
    let h : IsHead c.args.bytes.now c.in_ok-head.head = c.in_ok-head.ensures.found in
    let s : length c.args.bytes.now < 6 = c.in_default.ensures in
    let r : padded (length_in c.args.bytes.now) ≤ length c.args.bytes.now = h.room in
    no_room c.args.place c.args.bytes.now h.word h.room h.least h.flag h.type
    (omega (arith, padded_least (length_in c.args.bytes.now), value_place_eight c.args.bytes.now))

pub overflow_add-value_place : goal.overflow_add-value_place
overflow_add-value_place c = omega (arith, padded_most (c.in-Some.name_length + 3))

pub returns-then-head-value_place-clause-refused : goal.returns-then-head-value_place-clause-refused
returns-then-head-value_place-clause-refused c =
    let h : IsHead c.args.bytes.now c.in_ok-head.head = c.in_ok-head.ensures.found in
    let l : c.in_ok-head.head.length ≡ length_in c.args.bytes.now = h.length_is in
    let v : 4 + c.padded_size-value_place.result ≡ value_place c.args.bytes.now = value_place_from c.args.bytes.now _ _ c.in-Some.ensures.2 c.padded_size-value_place.ensures in
    no_room c.args.place c.args.bytes.now h.word h.room h.least h.flag h.type (omega arith)

pub split_at-requires-2 : goal.split_at-requires-2
split_at-requires-2 c =
    let h : IsHead c.args.bytes.now c.in_ok-head.head = c.in_ok-head.ensures.found in
    let l : c.in_ok-head.head.length ≡ length_in c.args.bytes.now = h.length_is in
    let r : padded (length_in c.args.bytes.now) ≤ length c.args.bytes.now = h.room in
    let n : c.in-Some.name_length ≡ name_length_in c.args.bytes.now = c.in-Some.ensures.2 in
    let v : 4 + c.padded_size-value_place.result ≡ value_place c.args.bytes.now = value_place_from c.args.bytes.now _ _ n c.padded_size-value_place.ensures in
    omega (arith, padded_least (length_in c.args.bytes.now), value_place_least c.args.bytes.now)

pub returns-then-not-ends_at_nul-clause-refused : goal.returns-then-not-ends_at_nul-clause-refused
returns-then-not-ends_at_nul-clause-refused c =
    let h : IsHead c.args.bytes.now c.in_ok-head.head = c.in_ok-head.ensures.found in
    let e : c.split_at-2.result.0.now ≡ named_in c.args.bytes.now = named_from c.args.bytes.now _ _ _ c.split_at.ensures.back c.split_at-2.ensures.front c.in-Some.ensures.2 in
    no_end c.args.place c.args.bytes.now h.word h.room h.least h.flag h.type
    (ap is_terminated (sym e) ∙ (sym c.ends_at_nul.ensures ∙ c.if-not-ends_at_nul.true))

pub split_at-requires-4 : goal.split_at-requires-4
split_at-requires-4 c =
    let h : IsHead c.args.bytes.now c.in_ok-head.head = c.in_ok-head.ensures.found in
    let l : c.in_ok-head.head.length ≡ length_in c.args.bytes.now = h.length_is in
    let r : padded (length_in c.args.bytes.now) ≤ length c.args.bytes.now = h.room in
    omega (arith, padded_least (length_in c.args.bytes.now))

pub padded_size-size-requires : goal.padded_size-size-requires
padded_size-size-requires c =
    let h : IsHead c.args.bytes.now c.in_ok-head.head = c.in_ok-head.ensures.found in
    let l : c.in_ok-head.head.length ≡ length_in c.args.bytes.now = h.length_is in
    omega (arith, length_in_most c.args.bytes.now)

pub returns-clause-found : goal.returns-clause-found
returns-clause-found c =
    let h : IsHead c.args.bytes.now c.in_ok-head.head = c.in_ok-head.ensures.found in
    let l : c.in_ok-head.head.length ≡ length_in c.args.bytes.now = h.length_is in
    let n : c.in-Some.name_length ≡ name_length_in c.args.bytes.now = c.in-Some.ensures.2 in
    let v : 4 + c.padded_size-value_place.result ≡ value_place c.args.bytes.now = value_place_from c.args.bytes.now _ _ n c.padded_size-value_place.ensures in
    let e : c.split_at-2.result.0.now ≡ named_in c.args.bytes.now = named_from c.args.bytes.now _ _ _ c.split_at.ensures.back c.split_at-2.ensures.front n in
    let s : c.padded_size-size.result ≡ padded (length_in c.args.bytes.now) = c.padded_size-size.ensures ∙ ap padded l in
    let room : value_place c.args.bytes.now ≤ length_in c.args.bytes.now = omega arith in
    record {
      whole = record {
        word = h.word;
        room = h.room;
        least = h.least;
        flag = h.flag;
        type = h.type;
        name_room = room;
        name_end = ap is_terminated (sym e) ∙ (sym c.ends_at_nul.ensures ∙ c.if-not-ends_at_nul.false);
      };
      kind_is = h.kind_is;
      name_is = name_from c.args.bytes.now _ _ _ c.split_at.ensures.back c.split_at-3.ensures.front n;
      value_is = value_from c.args.bytes.now _ _ _ _ c.split_at-4.ensures.front c.split_at-5.ensures.back l v;
      value_place_is = v;
      size_is = s;
      behind_is = behind_from c.args.bytes.now _ _ c.split_at-6.ensures.back s;
    }
