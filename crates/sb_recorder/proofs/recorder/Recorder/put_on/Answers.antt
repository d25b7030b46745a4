use Rattle.sb_recorder.proofs.recorder.Recorder.put_on.Goals as goal

pub returns-then-bytes-gt-MOST_GATHERED-clause-has :
    goal.returns-then-bytes-gt-MOST_GATHERED-clause-has
returns-then-bytes-gt-MOST_GATHERED-clause-has g c begun text had = c.write_long.ensures.has begun text (c.in-Ok.ensures.has begun text had)

pub returns-clause-has : goal.returns-clause-has
returns-clause-has g c begun text had = c.gather.ensures.has begun text (c.in-Ok.ensures.has begun text had)
