use Rattle.sb_recorder.proofs.Beside.{few_gathered, gathers}
use Rattle.sb_recorder.proofs.recorder.Recorder.gather.Goals as goal

pub add_bytes-requires : goal.add_bytes-requires
add_bytes-requires g c =
    let r = c.args.self.now in
    record { room = few_gathered r.buffer.items c.args.bytes.now _ c.requires.room c.requires.short r.buffer_fits }

pub returns-clause-has : goal.returns-clause-has
returns-clause-has g c begun text had few =
    let r = c.args.self.now in
    gathers r.journal r.next r.left r.buffer.items c.add_bytes.new.buffer.items c.args.bytes.now begun text c.requires.fits c.add_bytes.ensures.items had few
