-- ChromaRule: the code's rule for a chroma block with its two limits is the chroma rule.
mod ChromaRule
