mod SystemLemmas
