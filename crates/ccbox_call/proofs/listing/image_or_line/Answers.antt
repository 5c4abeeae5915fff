use Rattle.ccbox_call.proofs.ReadListings.{whole_read, short_text, short_front, few_bytes, goes_on, front_refused}
use Rattle.ccbox_call.proofs.listing.image_or_line.Goals as goal

pub read_list-requires : goal.read_list-requires
read_list-requires c = short_text c.args.listed.now c.if-listed-le-MAX_LISTING.true

pub returns-then-listed-le-MAX_LISTING : goal.returns-then-listed-le-MAX_LISTING
returns-then-listed-le-MAX_LISTING c =
    let e = c.read_list.ensures in
    whole_read c.args.listed.now c.if-listed-le-MAX_LISTING.true c.read_list.result e.listing e.format e.paced e.refused

pub read_list-requires-2 : goal.read_list-requires-2
read_list-requires-2 c = short_front c.args.listed.now c.first_bytes-front.result.now c.first_bytes-front.ensures

pub line_behind-requires : goal.line_behind-requires
line_behind-requires c = few_bytes c.args.listed.now c.first_bytes-front.result.now c.first_bytes-front.ensures

pub returns-in-Ok : goal.returns-in-Ok
returns-in-Ok c =
    let e = c.in-Ok.ensures in
    goes_on c.args.listed.now c.first_bytes-front.result.now c.first_bytes-front.ensures c.if-listed-le-MAX_LISTING.false c.in-Ok._image e.listing e.format e.paced c.line_behind.result c.line_behind.ensures

pub returns-in-Err : goal.returns-in-Err
returns-in-Err c = front_refused c.args.listed.now c.first_bytes-front.result.now c.first_bytes-front.ensures c.in-Err.refused c.in-Err.ensures.refused
