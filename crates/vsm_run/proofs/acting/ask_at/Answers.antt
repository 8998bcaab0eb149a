use Rattle.vsm_run.proofs.acting.ask_at.Goals as goal

pub serve-reply-requires-clause-free : goal.serve-reply-requires-clause-free
serve-reply-requires-clause-free c = (c.requires.serves c.wanted-request.result c.wanted-request.ensures.request c.wanted-request.ensures.slice).free

pub serve-reply-requires-clause-by : goal.serve-reply-requires-clause-by
serve-reply-requires-clause-by c = (c.requires.serves c.wanted-request.result c.wanted-request.ensures.request c.wanted-request.ensures.slice).by

pub serve-reply-requires-clause-idle : goal.serve-reply-requires-clause-idle
serve-reply-requires-clause-idle c = (c.requires.serves c.wanted-request.result c.wanted-request.ensures.request c.wanted-request.ensures.slice).idle
