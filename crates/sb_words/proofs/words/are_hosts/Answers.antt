use Rattle.sb_words.proofs.Forms.{each_host}
use Rattle.sb_words.proofs.words.are_hosts.Goals as goal

pub returns-then-names-le-MAX_HOSTS : goal.returns-then-names-le-MAX_HOSTS
returns-then-names-le-MAX_HOSTS c = each_host c.args.names.now c.all_hosts.result c.if-names-le-MAX_HOSTS.true c.all_hosts.ensures
